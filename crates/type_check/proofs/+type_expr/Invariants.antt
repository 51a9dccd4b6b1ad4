use Rattle.std.proofs.Common.{◌≡◌, ◌≤◌, ◌+◌, ◌*◌, max, drop, length, Ok}
use Rattle.source_trees.specs.ExprView.{arms_of, arms_size, expr_size, exprs_size, field_exprs_size, stmts_size, stmts_of, exprs_of, field_exprs_of}
use Rattle.type_check.specs.Chains.{climbed, frames_size, right_of, right_size}
use Rattle.type_check.specs.Setting.{setting_of}
use Rattle.type_check.specs.Literals.{made_by}
use Rattle.type_check.specs.TypedExpr.{no_arms}
use Rattle.type_check.specs.TypedExprView.{arms_of as typed_arms_of}
use Rattle.type_check.specs.Typing.{typed, typed_arms, typed_args, typed_fields, typed_stmts}
use Rattle.type_check.proofs.Arguments.{continued as args_continued}
use Rattle.type_check.proofs.FieldParts.{continued as fields_continued}
use Rattle.type_check.proofs.StatementLists.{continued as statements_continued}
use Rattle.type_check.proofs.+type_expr.Given as goal

-- each part is smaller; what only hands its parts on is between them and the whole
abbrev pub decreases-expressions::type_expr : goal.decreases-expressions::type_expr
decreases-expressions::type_expr l = 5 * expr_size l.e.now + 1

abbrev pub decreases-expressions::type_form : goal.decreases-expressions::type_form
decreases-expressions::type_form l = 5 * expr_size l.e.now

abbrev pub decreases-expressions::type_behind : goal.decreases-expressions::type_behind
decreases-expressions::type_behind l = 5 * right_size l.frame.above + 3

abbrev pub decreases-expressions::type_right : goal.decreases-expressions::type_right
decreases-expressions::type_right l = 5 * expr_size (right_of l.operation) + 2

abbrev pub decreases-expressions::type_unary : goal.decreases-expressions::type_unary
decreases-expressions::type_unary l = 5 * expr_size l.a.now + 3

abbrev pub decreases-expressions::type_cast : goal.decreases-expressions::type_cast
decreases-expressions::type_cast l = 5 * expr_size l.a.now + 2

abbrev pub decreases-expressions::type_binary : goal.decreases-expressions::type_binary
decreases-expressions::type_binary l = 5 * max (expr_size l.a.now) (expr_size l.b.now) + 3

abbrev pub decreases-expressions::type_operands : goal.decreases-expressions::type_operands
decreases-expressions::type_operands l = 5 * max (expr_size l.a.now) (expr_size l.b.now) + 2

abbrev pub decreases-expressions::type_lazy : goal.decreases-expressions::type_lazy
decreases-expressions::type_lazy l = 5 * max (expr_size l.left.now) (expr_size l.right.now) + 2

abbrev pub decreases-expressions::type_assign : goal.decreases-expressions::type_assign
decreases-expressions::type_assign l = 5 * max (expr_size l.left.now) (expr_size l.value.now) + 2

abbrev pub decreases-expressions::type_update : goal.decreases-expressions::type_update
decreases-expressions::type_update l = 5 * max (expr_size l.left.now) (expr_size l.value.now) + 2

abbrev pub decreases-expressions::type_call : goal.decreases-expressions::type_call
decreases-expressions::type_call l = 5 * exprs_size (exprs_of l.args.now) + 1

abbrev pub decreases-expressions::type_args : goal.decreases-expressions::type_args
decreases-expressions::type_args l = 5 * exprs_size (exprs_of l.args.now)

abbrev pub decreases-expressions::type_tuple : goal.decreases-expressions::type_tuple
decreases-expressions::type_tuple l = 5 * exprs_size (exprs_of l.parts.now) + 1

abbrev pub decreases-expressions::type_part : goal.decreases-expressions::type_part
decreases-expressions::type_part l = 5 * expr_size l.value.now + 2

abbrev pub decreases-expressions::type_field : goal.decreases-expressions::type_field
decreases-expressions::type_field l = 5 * expr_size l.value.now + 2

abbrev pub decreases-expressions::type_literal : goal.decreases-expressions::type_literal
decreases-expressions::type_literal l = 5 * field_exprs_size (field_exprs_of l.fields.now) + 1

abbrev pub decreases-expressions::type_fields : goal.decreases-expressions::type_fields
decreases-expressions::type_fields l = 5 * field_exprs_size (field_exprs_of l.fields.now)

abbrev pub decreases-expressions::type_block : goal.decreases-expressions::type_block
decreases-expressions::type_block l = 5 * stmts_size (stmts_of l.stmts.now) + 1

abbrev pub decreases-expressions::type_block_with : goal.decreases-expressions::type_block_with
decreases-expressions::type_block_with l = 5 * max (stmts_size (stmts_of l.stmts.now)) (expr_size l.last.now) + 2

abbrev pub decreases-expressions::type_statements : goal.decreases-expressions::type_statements
decreases-expressions::type_statements l = 5 * stmts_size (stmts_of l.stmts.now)

abbrev pub decreases-expressions::type_statement : goal.decreases-expressions::type_statement
decreases-expressions::type_statement l = 5 * expr_size l.stmt.now.value + 2

abbrev pub decreases-expressions::type_branch : goal.decreases-expressions::type_branch
decreases-expressions::type_branch l = 5 * max (expr_size l.condition.now) (expr_size l.body.now) + 2

abbrev pub decreases-expressions::type_choice : goal.decreases-expressions::type_choice
decreases-expressions::type_choice l = 5 * max (expr_size l.condition.now) (max (expr_size l.yes.now) (expr_size l.no.now)) + 2

abbrev pub decreases-loops::type_while : goal.decreases-loops::type_while
decreases-loops::type_while l = 5 * max (expr_size l.condition.now) (expr_size l.body.now) + 2

abbrev pub decreases-loops::type_loop : goal.decreases-loops::type_loop
decreases-loops::type_loop l = 5 * expr_size l.body.now + 2

abbrev pub decreases-expressions::type_return : goal.decreases-expressions::type_return
decreases-expressions::type_return l = 5 * expr_size l.value.now + 2

abbrev pub decreases-expressions::type_attributed : goal.decreases-expressions::type_attributed
decreases-expressions::type_attributed l = 5 * expr_size l.e.now + 2

abbrev pub invariant-expressions::type_expr-loop-frame : goal.invariant-expressions::type_expr-loop-frame
invariant-expressions::type_expr-loop-frame l = record {
  kept : l.scope.items ≡ l.fn.scope.items;
  so_far : typed (setting_of l.setting) l.fn.scope.items l.e l.expected ≡ climbed (setting_of l.setting) l.fn.scope.items l.frames.items (Ok l.typed);
  smaller : frames_size l.frames.items ≤ expr_size l.e;
}

abbrev pub decreases-expressions::type_expr-loop-frame : goal.decreases-expressions::type_expr-loop-frame
decreases-expressions::type_expr-loop-frame l = length l.frames.items

abbrev pub invariant-expressions::type_args-loop-i : goal.invariant-expressions::type_args-loop-i
invariant-expressions::type_args-loop-i l = record {
  kept : l.scope.items ≡ l.fn.scope.items;
  so_far : typed_args (setting_of l.setting) l.fn.scope.items (exprs_of l.args) l.params ≡ args_continued (setting_of l.setting) l.fn.scope.items l.args l.params l.i l.typed.items;
}

abbrev pub invariant-expressions::type_fields-loop-i : goal.invariant-expressions::type_fields-loop-i
invariant-expressions::type_fields-loop-i l = record {
  kept : l.scope.items ≡ l.fn.scope.items;
  so_far : typed_fields (setting_of l.setting) l.fn.scope.items l.whole (made_by l.maker) l.maker.fields.now (field_exprs_of l.fields) ≡ fields_continued (setting_of l.setting) l.fn.scope.items l.whole (made_by l.maker) l.fields l.i l.typed.items;
}

abbrev pub invariant-expressions::type_statements-loop-i : goal.invariant-expressions::type_statements-loop-i
invariant-expressions::type_statements-loop-i l = typed_stmts (setting_of l.setting) l.fn.scope.items (stmts_of l.stmts) ≡ statements_continued (setting_of l.setting) l.scope.items (drop l.i l.stmts) l.typed.items

abbrev pub decreases-matching::type_match : goal.decreases-matching::type_match
decreases-matching::type_match l = 5 * max (expr_size l.value.now) (arms_size (arms_of l.arms.now)) + 2

abbrev pub decreases-matching::type_arms : goal.decreases-matching::type_arms
decreases-matching::type_arms l = 5 * arms_size (arms_of l.arms.now)

abbrev pub decreases-matching::type_arm : goal.decreases-matching::type_arm
decreases-matching::type_arm l = 5 * expr_size l.body.now + 2

abbrev pub decreases-matching::type_branch_by : goal.decreases-matching::type_branch_by
decreases-matching::type_branch_by l = 5 * max (expr_size l.value.now) (expr_size l.body.now) + 3

abbrev pub decreases-matching::type_choice_by : goal.decreases-matching::type_choice_by
decreases-matching::type_choice_by l = 5 * max (expr_size l.value.now) (max (expr_size l.yes.now) (expr_size l.no.now)) + 3

-- what comes of the arms so far and of those that are left is what comes of all
abbrev pub invariant-matching::type_arms-loop-i : goal.invariant-matching::type_arms-loop-i
invariant-matching::type_arms-loop-i l = record {
  kept : l.scope.items ≡ l.fn.scope.items;
  so_far : typed_arms (setting_of l.setting) l.fn.scope.items l.ty l.expected no_arms (arms_of l.arms) ≡ typed_arms (setting_of l.setting) l.fn.scope.items l.ty l.asked (typed_arms_of l.typed.items) (arms_of (drop l.i l.arms));
}

abbrev pub decreases-loops::type_while_by : goal.decreases-loops::type_while_by
decreases-loops::type_while_by l = 5 * max (expr_size l.value.now) (expr_size l.body.now) + 3
