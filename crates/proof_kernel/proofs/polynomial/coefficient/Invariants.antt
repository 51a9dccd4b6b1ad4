use Rattle.std.proofs.Common.{◌≡◌, drop}
use Rattle.proof_kernel.specs.Polynomial.{coefficient}
use Rattle.proof_kernel.proofs.polynomial.coefficient.Given as goal

abbrev pub invariant-loop-known : goal.invariant-loop-known
invariant-loop-known l = coefficient l.monomial l.polynomial ≡ coefficient l.monomial (drop l.known-index l.polynomial)
