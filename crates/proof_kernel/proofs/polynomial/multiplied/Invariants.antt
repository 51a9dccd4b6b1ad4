use Rattle.std.proofs.Common.{◌++◌, drop}
use Rattle.proof_kernel.specs.Polynomial.{multiplied}
use Rattle.proof_kernel.proofs.PolynomialSteps.{MakesAs}
use Rattle.proof_kernel.proofs.polynomial.multiplied.Given as goal

abbrev pub invariant-loop-other : goal.invariant-loop-other
invariant-loop-other l =
    MakesAs (l.fn.first ++ multiplied l.summand l.others) (multiplied l.summand l.others) l.all (multiplied l.summand (drop l.other-index l.others))
