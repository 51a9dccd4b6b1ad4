-- Chains, the loop over arguments, what a block leaves in scope, and loops with attributes.
use Rattle.std.proofs.Common.{◌≡◌, ◌∙◌, Result, Ok, Err, ◌+◌, ◌*◌, ◌++◌, [], ◌∷◌, Some, length, drop, take, ap, sym, subst, arith, rules}
use Rattle.std.specs.Prelude.{OnOk, slice_get}
use Rattle.std.proofs.lemmas.Grind.{common_steps}
use Rattle.std.proofs.lemmas.Result.{err_from_is_err_and}
use Rattle.source_trees.specs.Expr as E
use Rattle.source_trees.specs.ExprView.{expr_size}
use Rattle.type_check.specs.Answers.{Answers, Refuses}
use Rattle.type_check.specs.Chains.{behind}
use Rattle.type_check.specs.Setting.{setting_of}
use Rattle.type_check.specs.TypedExpr.{none}
use Rattle.source_trees.specs.ExprView.{arms_of as written_arms}
use Rattle.type_check.specs.Arms.{arm_by}
use Rattle.type_check.specs.TypedExprView.{arms_of as typed_arms_of}
use Rattle.type_check.proofs.WrittenArms.{arms_end, arms_more, arms_stop}
use Rattle.type_check.specs.Typing.{typed_arm, typed_arms, next_field, no_field_left, typed}
use Rattle.type_check.proofs.Arguments.{args_more_all, args_stop_all, args_end}
use Rattle.type_check.proofs.Chains.{climbed_refuses, sizes_up, up, up_refuses}
use Rattle.type_check.specs.Literals.{made_by}
use Rattle.type_check.proofs.FieldParts.{fields_end, fields_more}
use Rattle.type_check.proofs.PartByPart.{along}
use Rattle.type_check.proofs.Parts.{endless_seen, loop_by_seen, loop_seen}
use Rattle.type_check.proofs.StatementLists.{scope_stays}
use Rattle.type_check.proofs.+type_expr.Goals as goal

on_ok : {A F : Type 0} (r : Result A F) (P : Type 0) → P → OnOk r P
on_ok (Ok a) P p = p
on_ok (Err f) P p = tt

pub expressions::type_expr-returns-in_err-typed-clause-answers : goal.expressions::type_expr-returns-in_err-typed-clause-answers
expressions::type_expr-returns-in_err-typed-clause-answers t c =
    let f = c.in_err-typed.field-0.0 in
    let p = err_from_is_err_and c.from_residual-in_err-typed.result c.from_residual-in_err-typed.ensures.1 in
    rw (p.1, p.2)
    (along f _ _ (c.in_ok-frames.ensures.typed (setting_of c.args.setting.now) c.args.scope.now.items)
    (climbed_refuses (setting_of c.args.setting.now) c.args.scope.now.items f c.in_ok-frames.field-0.frames.items _ c.in_err-typed.ensures.answers))

pub expressions::type_expr-type_behind-requires : goal.expressions::type_expr-type_behind-requires
expressions::type_expr-type_behind-requires t c =
    let measure : 5 * expr_size c.args.e.now + 1 ≡ t = c.decreases in
    let sizes = sizes_up c.pop.new.self.items c.loop-frame.frames.items c.in-Some.frame _ c.in-Some.ensures.items c.loop-frame.invariant.smaller in
    (omega (arith, measure, sizes.1), tt)

pub expressions::type_expr-returns-in_err-typed-2-clause-answers : goal.expressions::type_expr-returns-in_err-typed-2-clause-answers
expressions::type_expr-returns-in_err-typed-2-clause-answers t c =
    let f = c.in_err-typed-2.field-0.0 in
    let p = err_from_is_err_and c.from_residual-in_err-typed-2.result c.from_residual-in_err-typed-2.ensures.1 in
    let refused = subst (λ Γ. Refuses f (behind (setting_of c.args.setting.now) Γ c.in-Some.frame c.loop-frame.typed)) c.loop-frame.invariant.kept c.in_err-typed-2.ensures.answers in
    rw (p.1, p.2)
    (along f _ _ c.loop-frame.invariant.so_far
    (up_refuses (setting_of c.args.setting.now) c.args.scope.now.items f c.pop.new.self.items c.loop-frame.frames.items c.in-Some.frame c.loop-frame.typed c.in-Some.ensures.items refused))

pub expressions::type_expr-loop-frame-preserved : goal.expressions::type_expr-loop-frame-preserved
expressions::type_expr-loop-frame-preserved t c =
    let made = subst (λ Γ. behind (setting_of c.args.setting.now) Γ c.in-Some.frame c.loop-frame.typed ≡ Ok c.in_ok-typed-2.typed) c.loop-frame.invariant.kept c.in_ok-typed-2.ensures.answers in
    let sizes = sizes_up c.pop.new.self.items c.loop-frame.frames.items c.in-Some.frame _ c.in-Some.ensures.items c.loop-frame.invariant.smaller in
    record {
      kept = c.in_ok-typed-2.ensures.kept ∙ c.loop-frame.invariant.kept;
      so_far =
          c.loop-frame.invariant.so_far
          ∙ up (setting_of c.args.setting.now) c.args.scope.now.items c.pop.new.self.items c.loop-frame.frames.items c.in-Some.frame c.loop-frame.typed c.in_ok-typed-2.typed c.in-Some.ensures.items made;
      smaller = sizes.0;
    }

pub expressions::type_args-returns-in_err-arg-clause-answers : goal.expressions::type_args-returns-in_err-arg-clause-answers
expressions::type_args-returns-in_err-arg-clause-answers t c =
    let f = c.in_err-arg.field-0.0 in
    let p = err_from_is_err_and c.from_residual-in_err-arg.result c.from_residual-in_err-arg.ensures.1 in
    let wanted = subst (λ w. Refuses f (typed (setting_of c.args.setting.now) c.loop-i.scope.items c.index-args-i.result w)) c.in_ok-wanted.ensures c.in_err-arg.ensures.answers in
    let refused = subst (λ Γ. Refuses f (typed (setting_of c.args.setting.now) Γ c.index-args-i.result (slice_get c.args.params.now c.loop-i.i))) c.loop-i.invariant.kept wanted in
    rw (p.1, p.2)
    (args_stop_all f (setting_of c.args.setting.now) c.args.scope.now.items c.args.args.now c.args.params.now c.loop-i.i c.index-args-i.result c.loop-i.typed.items
    c.index-args-i.is c.loop-i-test.true c.loop-i.invariant.so_far refused)

pub expressions::type_args-loop-i-preserved : goal.expressions::type_args-loop-i-preserved
expressions::type_args-loop-i-preserved t c =
    let pushed : c.push.new.self.items ≡ c.loop-i.typed.items ++ c.in_ok-arg.arg ∷ [] = first_of (search rules, grind (arith, common_steps)) in
    let wanted = subst (λ w. typed (setting_of c.args.setting.now) c.loop-i.scope.items c.index-args-i.result w ≡ Ok c.in_ok-arg.arg) c.in_ok-wanted.ensures c.in_ok-arg.ensures.answers in
    let typed_at = subst (λ Γ. typed (setting_of c.args.setting.now) Γ c.index-args-i.result (slice_get c.args.params.now c.loop-i.i) ≡ Ok c.in_ok-arg.arg) c.loop-i.invariant.kept wanted in
    record {
      kept = subst (λ Γ. c.type_expr.new.scope.items ≡ Γ) c.loop-i.invariant.kept c.in_ok-arg.ensures.kept;
      so_far = args_more_all (setting_of c.args.setting.now) c.args.scope.now.items c.args.args.now c.args.params.now c.loop-i.i c.index-args-i.result c.loop-i.typed.items c.push.new.self.items c.in_ok-arg.arg
          c.index-args-i.is c.loop-i-test.true typed_at pushed c.loop-i.invariant.so_far;
    }

pub expressions::type_args-returns-clause-answers : goal.expressions::type_args-returns-clause-answers
expressions::type_args-returns-clause-answers t c =
    c.loop-i.invariant.so_far
    ∙ args_end (setting_of c.args.setting.now) c.args.scope.now.items c.args.args.now c.args.params.now c.loop-i.i c.loop-i.typed.items (omega arith)

pub expressions::type_fields-loop-i-preserved : goal.expressions::type_fields-loop-i-preserved
expressions::type_fields-loop-i-preserved t c =
    let wanted : next_field c.args.setting.now.types.now (made_by c.args.maker.now) (drop c.loop-i.i c.args.maker.now.fields.now) c.index-fields-i.result.name ≡ Ok c.in_ok-wanted.wanted =
    subst (λ ds. next_field ds (made_by c.args.maker.now) (drop c.loop-i.i c.args.maker.now.fields.now) c.index-fields-i.result.name ≡ Ok c.in_ok-wanted.wanted) c.decls.ensures c.in_ok-wanted.ensures in
    let typed_at = subst (λ Γ. typed (setting_of c.args.setting.now) Γ c.index-fields-i.result.value (Some c.in_ok-wanted.wanted) ≡ Ok c.in_ok-part.part) c.loop-i.invariant.kept c.in_ok-part.ensures.answers in
    record {
      kept = subst (λ Γ. c.type_expr.new.scope.items ≡ Γ) c.loop-i.invariant.kept c.in_ok-part.ensures.kept;
      so_far = fields_more (setting_of c.args.setting.now) c.args.scope.now.items c.args.whole (made_by c.args.maker.now) c.args.fields.now c.loop-i.i c.index-fields-i.result c.loop-i.typed.items
          c.index-fields-i.is c.loop-i-test.true c.loop-i.invariant.so_far c.push.new.self.items c.in_ok-wanted.wanted c.in_ok-part.part wanted typed_at c.in_ok-push.ensures.items;
    }

pub expressions::type_fields-returns-clause-answers : goal.expressions::type_fields-returns-clause-answers
expressions::type_fields-returns-clause-answers t c =
    let all : c.loop-i.i ≡ length c.args.fields.now = omega arith in
    let left = subst (λ n. no_field_left c.args.whole (drop n c.args.maker.now.fields.now) ≡ Ok none) (sym all) c.in_ok-no_field_left.ensures in
    c.loop-i.invariant.so_far
    ∙ fields_end (setting_of c.args.setting.now) c.args.scope.now.items c.args.whole (made_by c.args.maker.now) c.args.fields.now c.loop-i.i c.loop-i.typed.items all left

pub expressions::type_block-returns-clause-kept : goal.expressions::type_block-returns-clause-kept
expressions::type_block-returns-clause-kept t c =
    let around : c.len-around.result ≡ length c.args.scope.now.items = first_of (search rules, grind (arith, common_steps)) in
    let before = scope_stays (setting_of c.args.setting.now) c.args.scope.now.items c.args.stmts.now c.type_statements.new.scope.items c.in_ok-stmts.stmts.items c.in_ok-stmts.ensures in
    on_ok c.whole_block.result _ (c.truncate.ensures.items ∙ ap (λ n. take n c.type_statements.new.scope.items) around ∙ before)

pub expressions::type_block_with-returns-clause-kept : goal.expressions::type_block_with-returns-clause-kept
expressions::type_block_with-returns-clause-kept t c =
    let around : c.len-around.result ≡ length c.args.scope.now.items = first_of (search rules, grind (arith, common_steps)) in
    let before = scope_stays (setting_of c.args.setting.now) c.args.scope.now.items c.args.stmts.now c.type_statements.new.scope.items c.in_ok-stmts.stmts.items c.in_ok-stmts.ensures in
    on_ok c.block_with.result _
    (c.truncate.ensures.items ∙ ap (λ Γ. take c.len-around.result Γ) c.in_ok-last.ensures.kept ∙ ap (λ n. take n c.type_statements.new.scope.items) around ∙ before)

pub expressions::type_attributed-returns-in-None-clause-answers : goal.expressions::type_attributed-returns-in-None-clause-answers
expressions::type_attributed-returns-in-None-clause-answers t c =
    let is = loop_seen c.e.inside.span c.e.inside.node.value c.deref.result.now c.args.e.now c.in-While.pattern c.in-While.condition c.in-While.body c.e.view_is c.deref.ensures c.in-While.is c.in-None.is in
    subst (λ e. Answers c.type_while.result (typed (setting_of c.args.setting.now) c.args.scope.now.items (E.attributed c.args.whole c.args.attributes.now e) c.args.expected.now)) (sym is) c.type_while.ensures.answers

pub expressions::type_attributed-returns-in-Some-clause-answers : goal.expressions::type_attributed-returns-in-Some-clause-answers
expressions::type_attributed-returns-in-Some-clause-answers t c =
    let is = loop_by_seen c.e.inside.span c.e.inside.node.value c.deref.result.now c.args.e.now c.in-While.pattern c.in-Some.pattern c.in-While.condition c.in-While.body c.e.view_is c.deref.ensures c.in-While.is c.in-Some.is in
    subst (λ e. Answers c.type_while_by.result (typed (setting_of c.args.setting.now) c.args.scope.now.items (E.attributed c.args.whole c.args.attributes.now e) c.args.expected.now)) (sym is) c.type_while_by.ensures.answers

pub expressions::type_attributed-returns-in-Loop-clause-answers : goal.expressions::type_attributed-returns-in-Loop-clause-answers
expressions::type_attributed-returns-in-Loop-clause-answers t c =
    let is = endless_seen c.e.inside.span c.e.inside.node.value c.deref.result.now c.args.e.now c.in-Loop.body c.e.view_is c.deref.ensures c.in-Loop.is in
    subst (λ e. Answers c.type_loop.result (typed (setting_of c.args.setting.now) c.args.scope.now.items (E.attributed c.args.whole c.args.attributes.now e) c.args.expected.now)) (sym is) c.type_loop.ensures.answers

pub matching::type_arms-returns-in_err-arm-clause-answers : goal.matching::type_arms-returns-in_err-arm-clause-answers
matching::type_arms-returns-in_err-arm-clause-answers t c =
    let f = c.in_err-arm.field-0.0 in
    let σ = setting_of c.args.setting.now in
    let p = err_from_is_err_and c.from_residual-in_err-arm.result c.from_residual-in_err-arm.ensures.1 in
    let refused = subst (λ Γ. Refuses f (typed_arm σ Γ c.args.ty.now c.loop-i.asked c.index-arms-i.result.pattern c.index-arms-i.result.body)) c.loop-i.invariant.kept c.in_err-arm.ensures.answers in
    rw (p.1, p.2)
    (along f _ _ c.loop-i.invariant.so_far
    (arms_stop f σ c.args.scope.now.items c.args.ty.now c.loop-i.asked (typed_arms_of c.loop-i.typed.items) c.args.arms.now c.loop-i.i c.index-arms-i.result c.index-arms-i.is c.loop-i-test.true refused))

pub matching::type_arms-loop-i-preserved : goal.matching::type_arms-loop-i-preserved
matching::type_arms-loop-i-preserved t c =
    let σ = setting_of c.args.setting.now in
    let made = subst (λ Γ. typed_arm σ Γ c.args.ty.now c.loop-i.asked c.index-arms-i.result.pattern c.index-arms-i.result.body ≡ Ok (arm_by c.in_ok-arm.arm)) c.loop-i.invariant.kept c.in_ok-arm.ensures.answers in
    record {
      kept = subst (λ Γ. c.type_arm.new.scope.items ≡ Γ) c.loop-i.invariant.kept c.in_ok-arm.ensures.kept;
      so_far =
          c.loop-i.invariant.so_far
          ∙ arms_more σ c.args.scope.now.items c.args.ty.now c.loop-i.asked c.loop-i.typed.items c.push.new.self.items c.in_ok-arm.arm c.args.arms.now c.loop-i.i c.index-arms-i.result c.index-arms-i.is c.loop-i-test.true made c.in_ok-push.ensures.items
          ∙ ap (λ w. typed_arms σ c.args.scope.now.items c.args.ty.now w (typed_arms_of c.push.new.self.items) (written_arms (drop (c.loop-i.i + 1) c.args.arms.now))) (sym c.in_ok-asked-2.ensures);
    }

pub matching::type_arms-returns-clause-answers : goal.matching::type_arms-returns-clause-answers
matching::type_arms-returns-clause-answers t c =
    c.loop-i.invariant.so_far
    ∙ arms_end (setting_of c.args.setting.now) c.args.scope.now.items c.args.ty.now c.loop-i.asked (typed_arms_of c.loop-i.typed.items) c.args.arms.now c.loop-i.i (omega arith)
