use Rattle.std.proofs.Common.{◌≡◌, max}
use Rattle.logic_term.specs.Subst.{above, all_above}
use Rattle.logic_term.specs.TermView.{terms_of}
use Rattle.logic_term.specs.Walk.{to_do, weights}
use Rattle.logic_term.proofs.term.Term.above.Given as goal

abbrev pub invariant-loop-t : goal.invariant-loop-t
invariant-loop-t l = max l.most (all_above (terms_of (to_do l.left.items))) ≡ above l.self

abbrev pub decreases-loop-t : goal.decreases-loop-t
decreases-loop-t l = weights (terms_of (to_do l.left.items))
