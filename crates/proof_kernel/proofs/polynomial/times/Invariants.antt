use Rattle.std.proofs.Common.{◌≡◌, ◌+◌, ◌≤◌, drop}
use Rattle.proof_kernel.specs.Polynomial.{times}
use Rattle.proof_kernel.proofs.polynomial.times.Given as goal

abbrev pub invariant-loop-factor : goal.invariant-loop-factor
invariant-loop-factor l = (times l.atom l.monomial ≡ l.count + times l.atom (drop l.factor-index l.monomial)) × (l.count ≤ l.factor-index)
