use Rattle.verify_core.proofs.PassLaws.{RoomBefore}
use Rattle.verify_core.proofs.preparing.check_obligations.Given as goal

abbrev pub invariant-loop-place : goal.invariant-loop-place
invariant-loop-place l = RoomBefore l.fn.lowered l.place l.left
