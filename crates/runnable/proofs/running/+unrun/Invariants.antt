use Rattle.std.proofs.Common.{◌≡◌, ◌≤◌, ◌+◌, ◌*◌, drop}
use Rattle.runnable.specs.Unrun.{unrun_in_arms, unrun_in, unrun_among, unrun_in_statements, earlier}
use Rattle.type_check.specs.TypedExpr.{done}
use Rattle.type_check.specs.TypedExprView.{typed_size, exprs_size, stmts_size, arms_size, exprs_of, stmts_of, arms_of}
use Rattle.runnable.proofs.running.+unrun.Given as goal

abbrev pub decreases-unrun_in : goal.decreases-unrun_in
decreases-unrun_in l = 2 * typed_size l.e.now + 1

abbrev pub decreases-unrun_in_parts : goal.decreases-unrun_in_parts
decreases-unrun_in_parts l = 2 * typed_size l.e.now

abbrev pub decreases-unrun_among : goal.decreases-unrun_among
decreases-unrun_among l = 2 * exprs_size (exprs_of l.es.now)

abbrev pub decreases-unrun_in_statements : goal.decreases-unrun_in_statements
decreases-unrun_in_statements l = 2 * stmts_size (stmts_of l.stmts.now done)

abbrev pub invariant-unrun_in-loop-left : goal.invariant-unrun_in-loop-left
invariant-unrun_in-loop-left l = record {
  so_far : unrun_in l.types l.e ≡ earlier (unrun_in l.types l.bottom) l.found;
  smaller : typed_size l.bottom ≤ typed_size l.e;
}

abbrev pub decreases-unrun_in-loop-left : goal.decreases-unrun_in-loop-left
decreases-unrun_in-loop-left l = typed_size l.bottom

abbrev pub invariant-unrun_among-loop-i : goal.invariant-unrun_among-loop-i
invariant-unrun_among-loop-i l = unrun_among l.types (exprs_of (drop l.i l.es)) ≡ unrun_among l.types (exprs_of l.es)

abbrev pub invariant-unrun_in_statements-loop-i : goal.invariant-unrun_in_statements-loop-i
invariant-unrun_in_statements-loop-i l = unrun_in_statements l.types (stmts_of (drop l.i l.stmts) done) ≡ unrun_in_statements l.types (stmts_of l.stmts done)

abbrev pub decreases-unrun_in_arms : goal.decreases-unrun_in_arms
decreases-unrun_in_arms l = 2 * arms_size (arms_of l.arms.now)

abbrev pub invariant-unrun_in_arms-loop-i : goal.invariant-unrun_in_arms-loop-i
invariant-unrun_in_arms-loop-i l = unrun_in_arms l.types (arms_of (drop l.i l.arms)) ≡ unrun_in_arms l.types (arms_of l.arms)
