use Rattle.logic_term.specs.TermView.{term_size}
use Rattle.proof_kernel.proofs.sort_tests.+is_formula.Given as goal

abbrev pub decreases-is_formula : goal.decreases-is_formula
decreases-is_formula l = term_size l.t.now
