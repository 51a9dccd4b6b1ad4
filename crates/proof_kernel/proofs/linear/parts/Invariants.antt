use Rattle.std.proofs.Common.{◌≡◌, take}
use Rattle.proof_kernel.specs.LinearRows.{parts_from}
use Rattle.proof_kernel.proofs.linear.parts.Given as goal

abbrev pub invariant-loop-at : goal.invariant-loop-at
invariant-loop-at l = l.all ≡ parts_from 0 (take l.at l.table) l.form
