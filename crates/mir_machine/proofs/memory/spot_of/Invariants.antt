use Rattle.std.proofs.Common.{◌≡◌, drop}
use Rattle.mir_machine.specs.Memory.{spot_of, walk}
use Rattle.mir_machine.proofs.memory.spot_of.Given as goal

abbrev pub invariant-loop-part : goal.invariant-loop-part
invariant-loop-part l = spot_of l.state l.place ≡ walk l.state l.at (drop l.part-index l.place.path)
