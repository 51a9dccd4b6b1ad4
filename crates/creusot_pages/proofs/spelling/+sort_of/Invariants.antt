use Rattle.logic_term.specs.TermView.{term_size}
use Rattle.creusot_pages.proofs.spelling.+sort_of.Given as goal

abbrev pub decreases-sort_of : goal.decreases-sort_of
decreases-sort_of l = term_size l.t.now
