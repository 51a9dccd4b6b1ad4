use Rattle.std.proofs.Common.{◌≡◌, [], drop}
use Rattle.proof_kernel.specs.LinearRows.{with_all_monomials}
use Rattle.proof_kernel.proofs.linear.monomials_of.Given as goal

abbrev pub invariant-loop-form : goal.invariant-loop-form
invariant-loop-form l = with_all_monomials [] l.forms ≡ with_all_monomials l.table (drop l.form-index l.forms)
