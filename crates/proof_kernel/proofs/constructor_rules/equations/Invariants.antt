use Rattle.std.proofs.Common.{◌≡◌, ◌++◌, drop}
use Rattle.logic_term.specs.TermView.{terms_of}
use Rattle.proof_kernel.specs.ConstructorRules.{equations}
use Rattle.proof_kernel.proofs.constructor_rules.equations.Given as goal

abbrev pub invariant-loop-i : goal.invariant-loop-i
invariant-loop-i l = l.all.items ++ equations (terms_of (drop l.i l.a)) (terms_of (drop l.i l.b)) ≡ equations (terms_of l.a) (terms_of l.b)
