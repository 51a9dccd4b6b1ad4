use Rattle.std.proofs.Common.{◌≡◌, take}
use Rattle.proof_kernel.proofs.polynomial.copy_monomial.Given as goal

abbrev pub invariant-loop-atom : goal.invariant-loop-atom
invariant-loop-atom l = l.copies.items ≡ take l.atom-index l.monomial
