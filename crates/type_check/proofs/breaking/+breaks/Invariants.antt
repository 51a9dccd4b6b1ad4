use Rattle.std.proofs.Common.{◌≡◌, ◌≤◌, ◌+◌, ◌*◌, drop}
use Rattle.type_check.specs.Breaks.{some_arm_breaks, breaks, some_breaks, some_statement_breaks}
use Rattle.type_check.specs.TypedExpr.{done}
use Rattle.type_check.specs.TypedExprView.{typed_size, exprs_size, stmts_size, arms_size, exprs_of, stmts_of, arms_of}
use Rattle.type_check.proofs.breaking.+breaks.Given as goal

abbrev pub decreases-breaks : goal.decreases-breaks
decreases-breaks l = 2 * typed_size l.e.now + 1

abbrev pub decreases-form_breaks : goal.decreases-form_breaks
decreases-form_breaks l = 2 * typed_size l.e.now

abbrev pub decreases-some_breaks : goal.decreases-some_breaks
decreases-some_breaks l = 2 * exprs_size (exprs_of l.es.now)

abbrev pub decreases-some_statement_breaks : goal.decreases-some_statement_breaks
decreases-some_statement_breaks l = 2 * stmts_size (stmts_of l.stmts.now done)

abbrev pub invariant-breaks-loop-left : goal.invariant-breaks-loop-left
invariant-breaks-loop-left l = record {
  so_far : breaks l.e ≡ breaks l.bottom;
  smaller : typed_size l.bottom ≤ typed_size l.e;
}

abbrev pub decreases-breaks-loop-left : goal.decreases-breaks-loop-left
decreases-breaks-loop-left l = typed_size l.bottom

abbrev pub invariant-some_breaks-loop-i : goal.invariant-some_breaks-loop-i
invariant-some_breaks-loop-i l = some_breaks (exprs_of (drop l.i l.es)) ≡ some_breaks (exprs_of l.es)

abbrev pub invariant-some_statement_breaks-loop-i : goal.invariant-some_statement_breaks-loop-i
invariant-some_statement_breaks-loop-i l = some_statement_breaks (stmts_of (drop l.i l.stmts) done) ≡ some_statement_breaks (stmts_of l.stmts done)

abbrev pub decreases-some_arm_breaks : goal.decreases-some_arm_breaks
decreases-some_arm_breaks l = 2 * arms_size (arms_of l.arms.now)

abbrev pub invariant-some_arm_breaks-loop-i : goal.invariant-some_arm_breaks-loop-i
invariant-some_arm_breaks-loop-i l = some_arm_breaks (arms_of (drop l.i l.arms)) ≡ some_arm_breaks (arms_of l.arms)
