use Rattle.std.proofs.Common.{take}
use Rattle.lin_arith.specs.Columns.{IsNextAtom}
use Rattle.lin_arith.proofs.certificate.next_atom.Given as goal

abbrev pub invariant-loop-row : goal.invariant-loop-row
invariant-loop-row l = IsNextAtom (take l.row-index l.rows) l.from l.next
