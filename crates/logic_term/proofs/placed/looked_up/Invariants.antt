use Rattle.std.proofs.Common.{◌≡◌, ◌≤◌, length, take}
use Rattle.logic_term.specs.Subst.{look, numbers_before}
use Rattle.logic_term.proofs.placed.looked_up.Given as goal

abbrev pub decreases-loop-left : goal.decreases-loop-left
decreases-loop-left l = l.left

abbrev pub invariant-loop-left : goal.invariant-loop-left
invariant-loop-left l = record {
  within : l.left ≤ length l.bound;
  same : look (numbers_before (take l.left l.bound) l.sub) l.name ≡ look (numbers_before l.bound l.sub) l.name;
}
