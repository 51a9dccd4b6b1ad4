use Rattle.std.proofs.Common.{◌≡◌, drop}
use Rattle.proof_kernel.specs.LinearRows.{is_in}
use Rattle.proof_kernel.proofs.linear.is_in.Given as goal

abbrev pub invariant-loop-known : goal.invariant-loop-known
invariant-loop-known l = is_in l.table l.monomial ≡ is_in (drop l.known-index l.table) l.monomial
