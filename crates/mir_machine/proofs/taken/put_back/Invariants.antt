use Rattle.std.proofs.Common.{◌≡◌, length}
use Rattle.mir_machine.specs.Frame.{State}
use Rattle.mir_machine.specs.Try.{Yields}
use Rattle.mir_machine.specs.Taken.{undone, Undoes}
use Rattle.mir_machine.proofs.taken.put_back.Given as goal

abbrev pub invariant-loop-spot : goal.invariant-loop-spot
invariant-loop-spot l = (s : State (Unit {0})) → Undoes l.fn.taken l.fn.state s → (length l.left.items ≡ length l.trees.items) × (undone l.left.items l.trees.items l.state ≡ Yields s)

abbrev pub decreases-loop-spot : goal.decreases-loop-spot
decreases-loop-spot l = length l.left.items
