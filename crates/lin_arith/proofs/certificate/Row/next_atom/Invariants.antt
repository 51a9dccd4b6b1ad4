use Rattle.std.proofs.Common.{◌<◌}
use Rattle.std.specs.List.{AllWithin}
use Rattle.lin_arith.proofs.certificate.Row.next_atom.Given as goal

abbrev pub invariant-loop-part : goal.invariant-loop-part
invariant-loop-part l = AllWithin (λ part. part.atom < l.from) l.part-items 0 l.part-index
