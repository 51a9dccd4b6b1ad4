use Rattle.std.proofs.Common.{map, take}
use Rattle.proof_kernel.specs.Linear.{AreRows}
use Rattle.proof_kernel.specs.LinearRows.{difference}
use Rattle.proof_kernel.proofs.linear.sides_of.Given as goal

abbrev pub invariant-loop-i : goal.invariant-loop-i
invariant-loop-i l = AreRows l.q (take l.i l.multiples) (map difference l.all.items)
