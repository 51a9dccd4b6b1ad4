use Rattle.std.proofs.Common.{◌≡◌, ◌+◌, drop}
use Rattle.proof_kernel.specs.PolynomialCode.{place}
use Rattle.proof_kernel.proofs.polynomial.place.Given as goal

abbrev pub invariant-loop-at : goal.invariant-loop-at
invariant-loop-at l = place l.monomial l.polynomial ≡ l.at + place l.monomial (drop l.at l.polynomial)
