use Rattle.std.proofs.Common.{◌≡◌, ◌↔◌}
use Rattle.logic_term.specs.Pairs.{firsts, seconds}
use Rattle.logic_term.specs.TermView.{terms_of}
use Rattle.logic_term.specs.Walk.{weights}
use Rattle.logic_term.proofs.term.Term.same.Given as goal

abbrev pub invariant-loop-a : goal.invariant-loop-a
invariant-loop-a l = (firsts l.left.items ≡ seconds l.left.items) ↔ (l.self ≡ l.other)

abbrev pub decreases-loop-a : goal.decreases-loop-a
decreases-loop-a l = weights (terms_of (firsts l.left.items))
