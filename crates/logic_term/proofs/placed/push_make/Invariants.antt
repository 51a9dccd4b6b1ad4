use Rattle.std.proofs.Common.{◌≡◌, ◌∷◌, ◌++◌, drop, length, map}
use Rattle.logic_term.specs.Tasks.{enter, apply_last, steps}
use Rattle.logic_term.specs.Term.{made}
use Rattle.logic_term.proofs.placed.push_make.Given as goal

abbrev pub invariant-loop-i : goal.invariant-loop-i
invariant-loop-i l = steps l.tasks.items ≡ map enter (drop l.i l.parts) ++ apply_last (made l.fn.ctor) (length l.parts) ∷ steps l.fn.tasks.items
