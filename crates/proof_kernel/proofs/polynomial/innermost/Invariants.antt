use Rattle.std.proofs.Common.{reverse}
use Rattle.logic_term.specs.TermView.{term_size}
use Rattle.proof_kernel.specs.PolynomialCode.{IsWithin}
use Rattle.proof_kernel.proofs.polynomial.innermost.Given as goal

abbrev pub invariant-loop-operand : goal.invariant-loop-operand
invariant-loop-operand l = IsWithin (reverse l.around.items) l.last l.t

abbrev pub decreases-loop-operand : goal.decreases-loop-operand
decreases-loop-operand l = term_size l.last
