use Rattle.std.proofs.Common.{◌≡◌, refl, Bool, true, false, List, [], ◌∷◌, ◌++◌, ◌∙◌, ap, sym, length, arith, append_assoc}
use Rattle.std.proofs.lemmas.Result.{err_from_is_err_and}
use Rattle.type_check.specs.TypedExpr.{done, last, leaving}
use Rattle.type_check.specs.TypedExprView.{arms_of}
use Rattle.std.proofs.Common.{subst, OnOk, ◌<◌}
use Rattle.mir_ir.specs.declared.place.Place.{Place}
use Rattle.mir_build.specs.Lowering.{Around, binds}
use Rattle.mir_build.specs.Numbered.{rest}
use Rattle.mir_build.specs.Built.{written, around, end_of}
use Rattle.mir_build.specs.Tasks.{to_do, tasks_text}
use Rattle.mir_build.proofs.Scopes.{next_reaches}
use Rattle.mir_build.proofs.TaskStack.{popped_text, popped_labels, popped_locals, popped_size, popped_reach, popped_good}
use Rattle.mir_build.proofs.Runs.{running, args_at}
use Rattle.mir_build.proofs.Bindings.{value_text}
use Rattle.mir_build.proofs.MatchParts.{bound_arm_text, more_labels, written_match}
use Rattle.mir_build.proofs.Statements.{around_behind, text_on, labels_at, locals_at, text_end, within_on, front_on, types_on, loops_on}
use Rattle.mir_build.proofs.+lower.Goals.{expression::lower_rest-then-statement+in_ok-push, expression::lower_rest-else-statement, expression::lower_rest-in-Unit+in_ok-put_unit-in-Unit, expression::lower_rest-in-Value+in_ok-lower_into-in-Value, expression::lower_rest-in-Leaves+in_ok-lower_new-in-Leaves}
use Rattle.mir_build.proofs.+lower.Goals as goal

pub expression::lower_args-loop-e-preserved : goal.expression::lower_args-loop-e-preserved
expression::lower_args-loop-e-preserved t c =
    let e = args_at _ _ _ c.e-item.is c.loop-e-test.true in
    record {
      text = grind (arith, running, e);
      labels = grind (arith, e);
      locals = grind (arith, e);
      most = λ h. grind (arith, c.in_ok-t.ensures.most, c.loop-e.invariant.most);
      around = c.in_ok-t.ensures.around ∙ c.loop-e.invariant.around;
      count = c.in_ok-t.ensures.count ∙ c.loop-e.invariant.count;
      operands = grind (arith, append_assoc, e);
    }

pub expression::lower_into-loop-task-preserved : goal.expression::lower_into-loop-task-preserved
expression::lower_into-loop-task-preserved t c =
    let old = c.loop-task.tasks.items in
    let rest = c.pop.new.self.items in
    let is = c.in-Some.ensures.items in
    let labels = popped_labels old rest c.in-Some.task is in
    let locals = popped_locals old rest c.in-Some.task is in
    let size = popped_size old rest c.in-Some.task is in
    let reach = popped_reach old rest c.in-Some.task is in
    record {
      text =
          ap (λ a. written (tasks_text (to_do c.do_task.new.tasks.items) a c.do_task.new.b.labels (length c.do_task.new.b.text.locals)) c.do_task.new.b.text) c.in_ok-do_task.ensures.around
          ∙ c.in_ok-do_task.ensures.text ∙ sym (popped_text old rest c.in-Some.task is _ _ _ _) ∙ c.loop-task.invariant.text;
      labels = omega (arith, labels, c.in_ok-do_task.ensures.labels, c.loop-task.invariant.labels);
      locals = omega (arith, locals, c.in_ok-do_task.ensures.locals, c.loop-task.invariant.locals);
      most = λ h. c.in_ok-do_task.ensures.most (c.loop-task.invariant.most h);
      around = c.in_ok-do_task.ensures.around ∙ c.loop-task.invariant.around;
      count = c.in_ok-do_task.ensures.count ∙ c.loop-task.invariant.count;
      size = omega (arith, size, c.in_ok-do_task.ensures.size, c.loop-task.invariant.size);
      reach = omega (arith, reach, c.in_ok-do_task.ensures.reach, c.loop-task.invariant.reach);
      good = c.in_ok-do_task.ensures.good (popped_good old rest c.in-Some.task is c.loop-task.invariant.good).1;
    }

pub expression::lower_rest-loop-statement-preserved : goal.expression::lower_rest-loop-statement-preserved
expression::lower_rest-loop-statement-preserved t c =
    let ss = c.args.statements.now in
    let i = c.loop-statement.statement-index in
    let st = c.statement-item.result in
    let end = end_of c.args.end in
    let n = c.len-before.result in
    let x = c.in_ok-t.t in
    let old = around c.loop-statement.c in
    let known = c.loop-statement.invariant in
    let which : (b : Bool) × (st.binds ≡ b) × (around c.if-statement.c ≡ around_behind b old x) = elim c.if-statement.branch [
      | expression::lower_rest-then-statement+in_ok-push w ↦ (
        true,
        w.if-statement.true,
        ap around w.c-is
            ∙ ap (λ (xs : List Place). let r : Around = record { types = c.lower_new.new.c.types.now; scope = xs; loops = c.lower_new.new.c.loops.items } in r) w.in_ok-push.ensures.items
            ∙ ap (λ (p : Place). let r : Around = record { types = c.lower_new.new.c.types.now; scope = c.lower_new.new.c.scope.items ++ p ∷ []; loops = c.lower_new.new.c.loops.items } in r) w.whole.ensures ∙ ap (λ (a : Around). binds a x) c.in_ok-t.ensures.around,
      )
      | expression::lower_rest-else-statement w ↦ (false, w.if-statement.false, ap around w.c-is ∙ c.in_ok-t.ensures.around)
    ] in
    let b = which.0 in
    let e = which.1 in
    let q = c.statement-item.is in
    let h = c.loop-statement-test.true in
    record {
      text =
          text_on ss i st end q h b e c.args.outer c.args.span n old (around c.if-statement.c) c.loop-statement.b.labels c.lower_new.new.b.labels x c.args.d c.loop-statement.b.text c.lower_new.new.b.text known.before which.2
          c.in_ok-t.ensures.labels c.in_ok-t.ensures.number c.in_ok-t.ensures.locals c.in_ok-t.ensures.text
          ∙ known.text;
      labels = omega (arith, labels_at ss i st end q h b e, c.in_ok-t.ensures.labels, known.labels);
      locals = omega (arith, locals_at ss i st end q h b e, c.in_ok-t.ensures.locals, known.locals);
      most = λ m. c.in_ok-t.ensures.most (known.most m);
      before = within_on b old x n known.before (around c.if-statement.c) which.2;
      reach = next_reaches ss i st end q h b e old (around c.if-statement.c) x which.2 known.reach;
      scope = front_on b old x n known.before (around c.if-statement.c) which.2 ∙ known.scope;
      types = types_on b old x n known.before (around c.if-statement.c) which.2 ∙ known.types;
      loops = loops_on b old x n known.before (around c.if-statement.c) which.2 ∙ known.loops;
    }

pub expression::lower_rest-returns-in_err-t-clause-limit : goal.expression::lower_rest-returns-in_err-t-clause-limit
expression::lower_rest-returns-in_err-t-clause-limit t c =
    let st = c.statement-item.result in
    let here = labels_at c.args.statements.now c.loop-statement.statement-index st (end_of c.args.end) c.statement-item.is c.loop-statement-test.true st.binds refl in
    let p = err_from_is_err_and c.from_residual.result c.from_residual.ensures.1 in
    rw (p.1, p.2) (λ e. omega (arith, here, c.in_err-t.ensures.limit e, c.loop-statement.invariant.labels))

pub expression::lower_rest-returns-clause-text : goal.expression::lower_rest-returns-clause-text
expression::lower_rest-returns-clause-text t c =
    let end = end_of c.args.end in
    let old = around c.loop-statement.c in
    let text = c.loop-statement.b.text in
    let l = c.loop-statement.b.labels in
    let which : (c.match-end.b.text ≡ written (rest end c.args.outer c.args.span old l (length text.locals) c.args.d) text) × (around c.match-end.c ≡ old) = elim c.match-end.branch [
      | expression::lower_rest-in-Unit+in_ok-put_unit-in-Unit w ↦
          let z : end ≡ done = ap end_of w.in-Unit.is in (
            (λ j. (w.b-is j).text) ∙ w.in_ok-put_unit-in-Unit.ensures.text ∙ (λ j. written (rest (sym z j) c.args.outer c.args.span old l (length text.locals) c.args.d) text),
            ap around w.c-is,
          )
      | expression::lower_rest-in-Value+in_ok-lower_into-in-Value w ↦
          let z : end ≡ last w.in-Value.value.now = ap end_of w.in-Value.is in (
            (λ j. (w.b-is j).text) ∙ w.in_ok-lower_into-in-Value.ensures.text ∙ (λ j. written (rest (sym z j) c.args.outer c.args.span old l (length text.locals) c.args.d) text),
            ap around w.c-is ∙ w.in_ok-lower_into-in-Value.ensures.around,
          )
      | expression::lower_rest-in-Leaves+in_ok-lower_new-in-Leaves w ↦
          let z : end ≡ leaving w.in-Leaves.value.now = ap end_of w.in-Leaves.is in (
            (λ j. (w.b-is j).text) ∙ w.in_ok-lower_new-in-Leaves.ensures.text ∙ (λ j. written (value_text w.in-Leaves.value.now old l (w.in_ok-lower_new-in-Leaves.ensures.number j)) text)
                ∙ (λ j. written (rest (sym z j) c.args.outer c.args.span old l (length text.locals) c.args.d) text),
            ap around w.c-is ∙ w.in_ok-lower_new-in-Leaves.ensures.around,
          )
    ] in
    text_end c.args.statements.now c.loop-statement.statement-index end c.args.outer c.args.span c.len-before.result old (around c.match-end.c) l (length text.locals) c.args.d text c.match-end.b.text c.end_bindings.new.b.text
    c.loop-statement-test.false which.1 which.0 c.in_ok-end_bindings.ensures.text
    ∙ c.loop-statement.invariant.text

pub matches::lower_arm-returns-in-1-clause-text : goal.matches::lower_arm-returns-in-1-clause-text
matches::lower_arm-returns-in-1-clause-text t c =
    let arm = c.index-arms-position.result in
    let within : c.args.number < length c.args.arms.now = omega (arith, c.if-position-arms.false) in
    let text = bound_arm_text c.args.arms.now c.args.number arm c.index-arms-position.is within (sym arm.names.ok.0 ∙ sym c.len.ensures ∙ c.in-1.is) (around c.args.c.now) c.args.span c.args.ty.now c.args.place.now c.args.d
    c.args.b.now.labels (length c.args.b.now.text.locals) in
    subst (λ xs. OnOk c.lower_bound.result (c.lower_bound.new.b.text ≡ written xs c.args.b.now.text)) (sym text) c.lower_bound.ensures.text

pub matches::lower_match-returns-in_err-place-clause-limit : goal.matches::lower_match-returns-in_err-place-clause-limit
matches::lower_match-returns-in_err-place-clause-limit t c =
    let p = err_from_is_err_and c.from_residual.result c.from_residual.ensures.1 in
    rw (p.1, p.2) (λ e. more_labels c.args.span c.args.value.now (arms_of c.args.arms.now) c.args.b.now.labels (c.in_err-place.ensures.limit e))

pub matches::lower_match-returns-clause-text : goal.matches::lower_match-returns-clause-text
matches::lower_match-returns-clause-text t c =
    written_match c.args.span c.args.value.now (arms_of c.args.arms.now) (around c.args.c.now) (around c.lower_matched.new.c) (around c.lower_tests.new.c) c.args.b.now.labels c.lower_matched.new.b.labels c.take_behind.new.b.labels c.args.d
    c.type_of.result.now c.type_of-2.result.now c.in_ok-place.place c.in_ok-after.after c.in_ok-tree.tree c.args.b.now.text c.lower_matched.new.b.text c.take_behind.new.b.text c.lower_tests.new.b.text c.meet.new.b.text
    c.in_ok-place.ensures.place c.in_ok-place.ensures.text c.in_ok-place.ensures.labels c.in_ok-place.ensures.locals c.in_ok-place.ensures.around
    c.type_of.ensures c.in_ok-tree.ensures c.in_ok-after.ensures.label c.in_ok-after.ensures.labels c.in_ok-after.ensures.text
    c.type_of-2.ensures c.in_ok-lower_tests.ensures.text c.in_ok-lower_tests.ensures.around c.in_ok-meet.ensures.text
