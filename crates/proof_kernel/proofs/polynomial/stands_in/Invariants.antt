use Rattle.std.proofs.Common.{◌≡◌, drop}
use Rattle.std.specs.Prelude.{◌==◌}
use Rattle.std.specs.List.{list_all}
use Rattle.proof_kernel.specs.Polynomial.{times, stands_in}
use Rattle.proof_kernel.proofs.polynomial.stands_in.Given as goal

abbrev pub invariant-loop-atom : goal.invariant-loop-atom
invariant-loop-atom l =
    stands_in l.monomial l.other ≡ list_all (λ u. times u l.monomial == times u l.other) (drop l.atom-index l.monomial)
