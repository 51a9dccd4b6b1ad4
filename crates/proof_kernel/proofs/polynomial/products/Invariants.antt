use Rattle.std.proofs.Common.{drop}
use Rattle.proof_kernel.specs.Polynomial.{products}
use Rattle.proof_kernel.proofs.PolynomialSteps.{MakesAs}
use Rattle.proof_kernel.proofs.polynomial.products.Given as goal

abbrev pub invariant-loop-summand : goal.invariant-loop-summand
invariant-loop-summand l =
    MakesAs (products l.left l.right) (products l.left l.right) l.all (products (drop l.summand-index l.left) l.right)
