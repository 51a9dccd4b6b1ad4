use Rattle.std.proofs.Common.{drop}
use Rattle.proof_kernel.proofs.PolynomialSteps.{AddsAs}
use Rattle.proof_kernel.proofs.polynomial.added.Given as goal

abbrev pub invariant-loop-summand : goal.invariant-loop-summand
invariant-loop-summand l = AddsAs l.fn.polynomial l.summands l.sum (drop l.summand-index l.summands)
