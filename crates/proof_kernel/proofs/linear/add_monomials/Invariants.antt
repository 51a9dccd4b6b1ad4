use Rattle.std.proofs.Common.{◌≡◌, drop}
use Rattle.proof_kernel.specs.LinearRows.{with_monomials}
use Rattle.proof_kernel.proofs.linear.add_monomials.Given as goal

abbrev pub invariant-loop-summand : goal.invariant-loop-summand
invariant-loop-summand l = with_monomials l.fn.table l.polynomial ≡ with_monomials l.table (drop l.summand-index l.polynomial)
