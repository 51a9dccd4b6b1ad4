use Rattle.std.proofs.Common.{◌≡◌, [], max}
use Rattle.logic_term.specs.Canonical.{above_free}
use Rattle.logic_term.specs.Scopes.{above_scopes, scopes, scopes_weight}
use Rattle.logic_term.proofs.term.Term.above_free.Given as goal

abbrev pub invariant-loop-next : goal.invariant-loop-next
invariant-loop-next l = max l.most (above_scopes l.bound.items (scopes l.left.items)) ≡ above_free [] l.self

abbrev pub decreases-loop-next : goal.decreases-loop-next
decreases-loop-next l = scopes_weight (scopes l.left.items)
