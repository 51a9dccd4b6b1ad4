use Rattle.std.proofs.Common.{◌≡◌, ◌+◌, ◌*◌, ◌≤◌, drop, max}
use Rattle.source_trees.specs.ExprView.{exprs_of, stmts_of, arms_of, field_exprs_of, expr_size, exprs_size, stmts_size, arms_size, field_exprs_size}
use Rattle.source_forms.specs.Forms.{is_among, ◌or_else◌}
use Rattle.source_forms.specs.ExprForms.{unbuilt_expr, unbuilt_exprs, unbuilt_stmts, unbuilt_arms, unbuilt_field_exprs}
use Rattle.source_forms.proofs.expressions.+unbuilt_expr.Given as goal

abbrev pub decreases-unbuilt_expr : goal.decreases-unbuilt_expr
decreases-unbuilt_expr l = 4 * expr_size l.e.now + 1

abbrev pub decreases-unbuilt_before : goal.decreases-unbuilt_before
decreases-unbuilt_before l = 4 * expr_size l.e.now

abbrev pub decreases-unbuilt_behind : goal.decreases-unbuilt_behind
decreases-unbuilt_behind l = 4 * expr_size l.e.now

abbrev pub decreases-one : goal.decreases-one
decreases-one l = 4 * expr_size l.e.now + 2

abbrev pub decreases-branch : goal.decreases-branch
decreases-branch l = 4 * max (expr_size l.test.now) (expr_size l.body.now) + 2

abbrev pub decreases-choice : goal.decreases-choice
decreases-choice l = 4 * max (expr_size l.test.now) (max (expr_size l.yes.now) (expr_size l.no.now)) + 2

abbrev pub decreases-repeat : goal.decreases-repeat
decreases-repeat l = 4 * max (expr_size l.test.now) (expr_size l.body.now) + 2

abbrev pub decreases-attributed : goal.decreases-attributed
decreases-attributed l = 4 * expr_size l.e.now + 2

abbrev pub decreases-literal : goal.decreases-literal
decreases-literal l = 4 * field_exprs_size (field_exprs_of l.fields.now) + 1

abbrev pub decreases-tuple : goal.decreases-tuple
decreases-tuple l = 4 * exprs_size (exprs_of l.parts.now) + 1

abbrev pub decreases-block : goal.decreases-block
decreases-block l = 4 * stmts_size (stmts_of l.statements.now) + 1

abbrev pub decreases-block_with : goal.decreases-block_with
decreases-block_with l = 4 * max (stmts_size (stmts_of l.statements.now)) (expr_size l.e.now) + 2

abbrev pub decreases-matching : goal.decreases-matching
decreases-matching l = 4 * max (expr_size l.e.now) (arms_size (arms_of l.arms.now)) + 2

abbrev pub decreases-closure : goal.decreases-closure
decreases-closure l = 4 * expr_size l.body.now + 2

abbrev pub decreases-unbuilt_exprs : goal.decreases-unbuilt_exprs
decreases-unbuilt_exprs l = 4 * exprs_size (exprs_of l.es.now)

abbrev pub decreases-unbuilt_stmts : goal.decreases-unbuilt_stmts
decreases-unbuilt_stmts l = 4 * stmts_size (stmts_of l.statements.now)

abbrev pub decreases-unbuilt_arms : goal.decreases-unbuilt_arms
decreases-unbuilt_arms l = 4 * arms_size (arms_of l.arms.now)

abbrev pub decreases-unbuilt_field_exprs : goal.decreases-unbuilt_field_exprs
decreases-unbuilt_field_exprs l = 4 * field_exprs_size (field_exprs_of l.fields.now)

abbrev pub invariant-unbuilt_expr-loop-left : goal.invariant-unbuilt_expr-loop-left
invariant-unbuilt_expr-loop-left l = record {
  first : (unbuilt_expr (is_among l.built) l.e or_else l.after) ≡ unbuilt_expr (is_among l.built) l.initial.e;
  within : expr_size l.e ≤ expr_size l.initial.e;
}

abbrev pub decreases-unbuilt_expr-loop-left : goal.decreases-unbuilt_expr-loop-left
decreases-unbuilt_expr-loop-left l = expr_size l.e

abbrev pub invariant-unbuilt_exprs-loop-e : goal.invariant-unbuilt_exprs-loop-e
invariant-unbuilt_exprs-loop-e l = unbuilt_exprs (is_among l.built) (exprs_of l.es) ≡ unbuilt_exprs (is_among l.built) (exprs_of (drop l.e-index l.es))

abbrev pub invariant-unbuilt_stmts-loop-statement : goal.invariant-unbuilt_stmts-loop-statement
invariant-unbuilt_stmts-loop-statement l = unbuilt_stmts (is_among l.built) (stmts_of l.statements) ≡ unbuilt_stmts (is_among l.built) (stmts_of (drop l.statement-index l.statements))

abbrev pub invariant-unbuilt_arms-loop-arm : goal.invariant-unbuilt_arms-loop-arm
invariant-unbuilt_arms-loop-arm l = unbuilt_arms (is_among l.built) (arms_of l.arms) ≡ unbuilt_arms (is_among l.built) (arms_of (drop l.arm-index l.arms))

abbrev pub invariant-unbuilt_field_exprs-loop-field : goal.invariant-unbuilt_field_exprs-loop-field
invariant-unbuilt_field_exprs-loop-field l = unbuilt_field_exprs (is_among l.built) (field_exprs_of l.fields) ≡ unbuilt_field_exprs (is_among l.built) (field_exprs_of (drop l.field-index l.fields))
