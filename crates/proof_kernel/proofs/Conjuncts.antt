-- The conjuncts and the disjuncts of terms that are left on a stack.
use Rattle.std.specs.Prelude.{List, [], ◌∷◌, ◌++◌}
use Rattle.logic_term.specs.Term.{Term}
use Rattle.proof_kernel.specs.HypothesisRules.{disjuncts}
use Rattle.proof_kernel.specs.Rules.{conjuncts}

abbrev pub conjuncts_in : List Term → List Term
conjuncts_in [] = []
conjuncts_in (t ∷ ts) = conjuncts t ++ conjuncts_in ts

abbrev pub disjuncts_in : List Term → List Term
disjuncts_in [] = []
disjuncts_in (t ∷ ts) = disjuncts t ++ disjuncts_in ts
