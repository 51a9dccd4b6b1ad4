use Rattle.std.proofs.Common.{◌≡◌, ◌≤◌, length, take}
use Rattle.goal_text.specs.BoundView.{bounds_of}
use Rattle.goal_text.specs.GoalText.{number_in}
use Rattle.goal_text.proofs.term.number_of.Given as goal

abbrev pub decreases-loop-left : goal.decreases-loop-left
decreases-loop-left l = l.left

abbrev pub invariant-loop-left : goal.invariant-loop-left
invariant-loop-left l = record {
  within : l.left ≤ length l.bound;
  same : number_in (bounds_of l.bound) l.name ≡ number_in (bounds_of (take l.left l.bound)) l.name;
}
