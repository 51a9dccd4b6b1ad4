-- Lists of formulas that are all true.
use Rattle.std.proofs.Common.{◌≡◌, ℕ, suc, List, [], ◌∷◌, map}
use Rattle.logic_term.specs.Meaning.{Sure, Structure, Env, Holds}
use Rattle.logic_term.specs.Normal.{reduced}
use Rattle.logic_term.specs.Term.{Term}
use Rattle.logic_term.proofs.Alike.{sure_map, yes_alike}
use Rattle.logic_term.proofs.CanonicalLaw.{reduced_means}
use Rattle.proof_kernel.specs.Rules.{labelled}
use Rattle.proof_kernel.specs.Sequent.{AllHold}

abbrev pub AllTrue : Structure → List Term → Env → Type 0
AllTrue S [] ρ = Unit {0}
AllTrue S (t ∷ ts) ρ = Holds S t ρ × AllTrue S ts ρ

-- what cannot fail to be true is
pub surely_true : (S : Structure) (ts : List Term) (ρ : Env) → Sure (AllTrue S ts ρ) → AllTrue S ts ρ
surely_true S [] ρ h = tt
surely_true S (t ∷ ts) ρ h = ((λ n. h (λ p. p.0 n)), surely_true S ts ρ (sure_map _ _ (λ p. p.1) h))

-- their normal forms are true as hypotheses
pub reduced_hold : (S : Structure) (s k : ℕ) (ts : List Term) (ρ : Env) → AllTrue S ts ρ → AllHold S (labelled s k (map reduced ts)) ρ
reduced_hold S s k [] ρ h = tt
reduced_hold S s k (t ∷ ts) ρ h = ((yes_alike _ _ (reduced_means S t ρ)).1 h.0, reduced_hold S s (suc k) ts ρ h.1)
