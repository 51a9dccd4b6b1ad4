use Rattle.std.proofs.Common.{◌+◌, ◌*◌, max}
use Rattle.logic_term.specs.TermView.{term_size, terms_of, terms_size}
use Rattle.creusot_pages.proofs.formula.+formula.Given as goal

abbrev pub decreases-push_formula : goal.decreases-push_formula
decreases-push_formula l = 4 * term_size l.t.now

abbrev pub decreases-push_part : goal.decreases-push_part
decreases-push_part l = 4 * term_size l.t.now + 1

abbrev pub decreases-push_unary : goal.decreases-push_unary
decreases-push_unary l = 4 * term_size l.a.now + 2

abbrev pub decreases-push_binary : goal.decreases-push_binary
decreases-push_binary l = 4 * max (term_size l.a.now) (term_size l.b.now) + 2

abbrev pub decreases-push_quantified : goal.decreases-push_quantified
decreases-push_quantified l = 4 * term_size l.body.now + 2

abbrev pub decreases-push_choice : goal.decreases-push_choice
decreases-push_choice l = 4 * max (term_size l.condition.now) (max (term_size l.first.now) (term_size l.second.now)) + 2

abbrev pub decreases-push_made : goal.decreases-push_made
decreases-push_made l = 4 * terms_size (terms_of l.parts.now) + 2

abbrev pub decreases-push_tuple : goal.decreases-push_tuple
decreases-push_tuple l = 4 * terms_size (terms_of l.parts.now) + 1

abbrev pub decreases-push_listed : goal.decreases-push_listed
decreases-push_listed l = 4 * terms_size (terms_of l.parts.now)
