use Rattle.std.proofs.Common.{◌+◌, ◌*◌, length, reverse}
use Rattle.logic_term.specs.TermView.{term_size}
use Rattle.proof_kernel.specs.PolynomialCode.{IsMadeWithin}
use Rattle.proof_kernel.proofs.polynomial.+polynomial.Given as goal

abbrev pub decreases-polynomial : goal.decreases-polynomial
decreases-polynomial l = 3 * term_size l.t.now + 1

abbrev pub decreases-joined_in : goal.decreases-joined_in
decreases-joined_in l = 3 * term_size l.t.now

abbrev pub decreases-sum : goal.decreases-sum
decreases-sum l = 3 * term_size l.b.now + 2

abbrev pub decreases-difference : goal.decreases-difference
decreases-difference l = 3 * term_size l.b.now + 2

abbrev pub decreases-product_with : goal.decreases-product_with
decreases-product_with l = 3 * term_size l.b.now + 2

abbrev pub invariant-polynomial-loop-outer : goal.invariant-polynomial-loop-outer
invariant-polynomial-loop-outer l = IsMadeWithin (reverse l.around.items) l.so_far l.t

abbrev pub decreases-polynomial-loop-outer : goal.decreases-polynomial-loop-outer
decreases-polynomial-loop-outer l = length l.around.items
