use Rattle.std.proofs.Common.{◌≡◌, ◌≤◌, length, take}
use Rattle.type_check.specs.Scope.{found}
use Rattle.type_check.proofs.scope.find_variable.Given as goal

abbrev pub decreases-loop-left : goal.decreases-loop-left
decreases-loop-left l = l.left

abbrev pub invariant-loop-left : goal.invariant-loop-left
invariant-loop-left l = record { within : l.left ≤ length l.scope; same : found l.name (take l.left l.scope) ≡ found l.name l.scope }
