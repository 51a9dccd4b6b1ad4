use Rattle.std.proofs.Common.{drop}
use Rattle.proof_kernel.specs.Polynomial.{opposite}
use Rattle.proof_kernel.proofs.PolynomialSteps.{AddsAs}
use Rattle.proof_kernel.proofs.polynomial.subtracted.Given as goal

abbrev pub invariant-loop-summand : goal.invariant-loop-summand
invariant-loop-summand l = AddsAs l.fn.polynomial (opposite l.summands) l.rest (opposite (drop l.summand-index l.summands))
