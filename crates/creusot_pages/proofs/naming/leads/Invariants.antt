use Rattle.logic_term.specs.TermView.{term_size}
use Rattle.creusot_pages.proofs.naming.leads.Given as goal

abbrev pub decreases-loop-body : goal.decreases-loop-body
decreases-loop-body l = term_size l.t
