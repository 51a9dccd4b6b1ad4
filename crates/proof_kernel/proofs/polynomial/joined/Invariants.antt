use Rattle.std.proofs.Common.{◌≡◌, ◌++◌, take}
use Rattle.proof_kernel.proofs.polynomial.joined.Given as goal

abbrev pub invariant-loop-atom : goal.invariant-loop-atom
invariant-loop-atom l = l.monomial ≡ l.left ++ take l.atom-index l.right
