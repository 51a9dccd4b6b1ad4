use Rattle.std.proofs.Common.{◌≡◌, ◌≤◌, drop}
use Rattle.type_check.specs.Leaves.{all_arms_leave, leaves}
use Rattle.type_check.specs.TypedExprView.{typed_size, arms_size, arms_of}
use Rattle.type_check.proofs.leaving.+leaves.Given as goal

abbrev pub decreases-leaves : goal.decreases-leaves
decreases-leaves l = typed_size l.e.now

abbrev pub invariant-leaves-loop-last : goal.invariant-leaves-loop-last
invariant-leaves-loop-last l = record {
  same : leaves l.e ≡ leaves l.end;
  smaller : typed_size l.end ≤ typed_size l.e;
}

abbrev pub decreases-leaves-loop-last : goal.decreases-leaves-loop-last
decreases-leaves-loop-last l = typed_size l.end

abbrev pub decreases-all_arms_leave : goal.decreases-all_arms_leave
decreases-all_arms_leave l = arms_size (arms_of l.arms.now)

abbrev pub invariant-all_arms_leave-loop-i : goal.invariant-all_arms_leave-loop-i
invariant-all_arms_leave-loop-i l = all_arms_leave (arms_of (drop l.i l.arms)) ≡ all_arms_leave (arms_of l.arms)
