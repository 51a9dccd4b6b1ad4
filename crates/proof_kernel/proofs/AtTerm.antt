-- A formula at a term for a variable is the formula where the variable has the term's value.
use Rattle.std.proofs.Common.{◌≡◌, ◌==◌, Bool, true, false, cond, List, [], ◌∷◌}
use Rattle.text_core.specs.declared.name.Name.{Name}
use Rattle.logic_term.specs.declared.subst.Replacement.{Replacement}
use Rattle.logic_term.specs.Meaning.{Structure, Env, with_value, Means, Holds}
use Rattle.logic_term.specs.Subst.{with_terms}
use Rattle.logic_term.specs.Term.{Term, var}
use Rattle.logic_term.specs.Value.{Value}
use Rattle.logic_term.proofs.Alike.{Alike, alike_same, yes_alike}
use Rattle.logic_term.proofs.CanonicalLaw.{reduced_means}
use Rattle.logic_term.proofs.PlacedLaw.{with_terms_means}
use Rattle.logic_term.proofs.Truth.{Exactly}
use Rattle.proof_kernel.specs.TermRules.{at_term}

module _ (S : Structure) where
  at_term_means : (x : Name) (u t : Term) (σ : Env) (w : Value) → Exactly (Means S u σ) w → Alike (Means S (with_terms (record { name = x; by = u } ∷ []) t) σ) (Means S t (with_value σ x w))
  at_term_means x u t σ w e = with_terms_means S t σ (with_value σ x w) (record { name = x; by = u } ∷ []) (λ y f. by y (y.0 == x.0))
    where
      by : (y : Name) (b : Bool) → Alike (Means S (cond b u (var y)) σ) (λ v. v ≡ cond b w (σ y))
      by y true = e
      by y false = alike_same _

  pub at_term_to : (x : Name) (u t : Term) (σ : Env) (w : Value) → Exactly (Means S u σ) w → Holds S t (with_value σ x w) → Holds S (at_term x u t) σ
  at_term_to x u t σ w e h = (yes_alike _ _ (reduced_means S (with_terms (record { name = x; by = u } ∷ []) t) σ)).1 ((yes_alike _ _ (at_term_means x u t σ w e)).1 h)

  pub at_term_of : (x : Name) (u t : Term) (σ : Env) (w : Value) → Exactly (Means S u σ) w → Holds S (at_term x u t) σ → Holds S t (with_value σ x w)
  at_term_of x u t σ w e h = (yes_alike _ _ (at_term_means x u t σ w e)).0 ((yes_alike _ _ (reduced_means S (with_terms (record { name = x; by = u } ∷ []) t) σ)).0 h)
