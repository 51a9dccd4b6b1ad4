use Rattle.std.proofs.Common.{◌≡◌, ◌≤◌, length, take}
use Rattle.logic_term.specs.Canonical.{is_one_of}
use Rattle.logic_term.proofs.canonical.is_one_of.Given as goal

abbrev pub decreases-loop-left : goal.decreases-loop-left
decreases-loop-left l = l.left

abbrev pub invariant-loop-left : goal.invariant-loop-left
invariant-loop-left l = record { within : l.left ≤ length l.names; same : is_one_of l.name (take l.left l.names) ≡ is_one_of l.name l.names }
