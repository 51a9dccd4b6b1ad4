use Rattle.std.proofs.Common.{◌≡◌}
use Rattle.logic_term.specs.Free.{free, free_in_some}
use Rattle.logic_term.specs.TermView.{terms_of}
use Rattle.logic_term.specs.Walk.{to_do, weights}
use Rattle.logic_term.proofs.term.Term.free_in.Given as goal

abbrev pub invariant-loop-t : goal.invariant-loop-t
invariant-loop-t l = free_in_some l.name (terms_of (to_do l.left.items)) ≡ free l.name l.self

abbrev pub decreases-loop-t : goal.decreases-loop-t
decreases-loop-t l = weights (terms_of (to_do l.left.items))
