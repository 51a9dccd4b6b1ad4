use Rattle.std.proofs.Common.{◌≡◌, ◌++◌, drop, map, Some}
use Rattle.logic_term.specs.Scopes.{scopes}
use Rattle.logic_term.proofs.canonical.push_all_within.Given as goal

abbrev pub invariant-loop-i : goal.invariant-loop-i
invariant-loop-i l = scopes l.left.items ≡ map Some (drop l.i l.terms) ++ scopes l.initial.left.items
