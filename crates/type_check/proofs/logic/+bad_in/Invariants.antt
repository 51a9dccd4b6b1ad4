use Rattle.std.proofs.Common.{◌≡◌, ◌≤◌, ◌+◌, ◌*◌, max, drop}
use Rattle.type_check.specs.FirstBad.{bad_in_arms, bad_in, bad_in_exprs, bad_in_stmts}
use Rattle.type_check.specs.Answers.{or_else}
use Rattle.type_check.specs.TypedExpr.{done}
use Rattle.type_check.specs.TypedExprView.{typed_size, exprs_size, stmts_size, arms_size, exprs_of, stmts_of, arms_of}
use Rattle.type_check.proofs.logic.+bad_in.Given as goal

abbrev pub decreases-bad_in : goal.decreases-bad_in
decreases-bad_in l = 3 * typed_size l.e.now + 1

abbrev pub decreases-bad_in_form : goal.decreases-bad_in_form
decreases-bad_in_form l = 3 * typed_size l.e.now

abbrev pub decreases-bad_in_both : goal.decreases-bad_in_both
decreases-bad_in_both l = 3 * max (typed_size l.first.now) (typed_size l.second.now) + 2

abbrev pub decreases-bad_in_block : goal.decreases-bad_in_block
decreases-bad_in_block l = 3 * max (stmts_size (stmts_of l.stmts.now done)) (typed_size l.last.now) + 2

abbrev pub decreases-bad_in_match : goal.decreases-bad_in_match
decreases-bad_in_match l = 3 * max (typed_size l.value.now) (arms_size (arms_of l.arms.now)) + 2

abbrev pub decreases-bad_in_exprs : goal.decreases-bad_in_exprs
decreases-bad_in_exprs l = 3 * exprs_size (exprs_of l.es.now)

abbrev pub decreases-bad_in_stmts : goal.decreases-bad_in_stmts
decreases-bad_in_stmts l = 3 * stmts_size (stmts_of l.stmts.now done)

abbrev pub invariant-bad_in-loop-left : goal.invariant-bad_in-loop-left
invariant-bad_in-loop-left l = record {
  so_far : bad_in l.e ≡ or_else (bad_in l.bottom) l.found;
  smaller : typed_size l.bottom ≤ typed_size l.e;
}

abbrev pub decreases-bad_in-loop-left : goal.decreases-bad_in-loop-left
decreases-bad_in-loop-left l = typed_size l.bottom

abbrev pub invariant-bad_in_exprs-loop-i : goal.invariant-bad_in_exprs-loop-i
invariant-bad_in_exprs-loop-i l = bad_in_exprs (exprs_of (drop l.i l.es)) ≡ bad_in_exprs (exprs_of l.es)

abbrev pub invariant-bad_in_stmts-loop-i : goal.invariant-bad_in_stmts-loop-i
invariant-bad_in_stmts-loop-i l = bad_in_stmts (stmts_of (drop l.i l.stmts) done) ≡ bad_in_stmts (stmts_of l.stmts done)

abbrev pub decreases-bad_in_arms : goal.decreases-bad_in_arms
decreases-bad_in_arms l = 3 * arms_size (arms_of l.arms.now)

abbrev pub invariant-bad_in_arms-loop-i : goal.invariant-bad_in_arms-loop-i
invariant-bad_in_arms-loop-i l = bad_in_arms (arms_of (drop l.i l.arms)) ≡ bad_in_arms (arms_of l.arms)
