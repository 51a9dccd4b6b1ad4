-- Each rule is sound: where its premises are true, the sequent is.
use Rattle.std.proofs.Common.{◌≡◌, ℕ, ◌==◌, ◌&&◌, Bool, true, false, cond, List, [], ◌∷◌, ◌++◌, map, Option, Some, ◌⊎◌, inl, inr, refl, sym, ◌∙◌, ap, subst, true≢false}
use Rattle.text_core.specs.declared.name.Name.{Name}
use Rattle.logic_term.specs.declared.kinds.Label2.{Label2}
use Rattle.logic_term.specs.Ty.{Ty}
use Rattle.logic_term.specs.Sort.{HasSort, instance}
use Rattle.logic_term.specs.Theory.{declared}
use Rattle.logic_term.specs.Term.{both, Term, apply, no_terms, and_term}
use Rattle.logic_term.specs.Meaning.{Structure, Env, Holds}
use Rattle.logic_term.proofs.FreeLaw.{same_name, same_test}
use Rattle.logic_term.proofs.Truth.{holds_and}
use Rattle.proof_kernel.specs.Sequent.{Sequent}
use Rattle.proof_kernel.specs.Sequent.{InSorts, AllHold, IsTrueAt, AllTrueAt}
use Rattle.proof_kernel.specs.Rules.{same_label, hypothesis, sort_of, with_goal, conjuncts}

pub and_true : (a b : Bool) → (a && b) ≡ true → (a ≡ true) × (b ≡ true)
and_true true b e = (refl, e)
and_true false b e = absurd (true≢false (sym e))

-- which side of a choice it is
picked : {A : Type 0} (b : Bool) (x t : A) (o : Option A) → cond b (Some x) o ≡ Some t → ((b ≡ true) × (x ≡ t)) ⊎ (o ≡ Some t)
picked true x t o e = inl (refl, cc)
picked false x t o e = inr e

module _ (S : Structure) where
  -- ---- hypotheses and variables

  pub held : (l : Label2) (hs : List (Label2 × Term)) (t : Term) (ρ : Env) → hypothesis l hs ≡ Some t → AllHold S hs ρ → Holds S t ρ
  held l [] t ρ e h = absurd (cc)
  held l (g ∷ hs) t ρ e h = elim (picked (same_label l g.0) g.1 t (hypothesis l hs) e) [
    | inl p ↦ subst (λ u. Holds S u ρ) p.1 h.0
    | inr p ↦ held l hs t ρ p h.1
  ]

  pub sorted : (x : Name) (vs : List (Name × Ty)) (t : Ty) (ρ : Env) → sort_of x vs ≡ Some t → InSorts S vs ρ → HasSort (declared S.theory) (ρ x) (instance S.types t)
  sorted x [] t ρ e h = absurd (cc)
  sorted x (v ∷ vs) t ρ e h = elim (picked (x.0 == v.0.0) v.1 t (sort_of x vs) e) [
    | inl p ↦ let same : v.0 ≡ x = sym (same_name x v.0 (same_test x.0 v.0.0 p.0)) in
        subst (λ y. HasSort (declared S.theory) (ρ y) (instance S.types t)) same (subst (λ u. HasSort (declared S.theory) (ρ v.0) (instance S.types u)) p.1 h.0)
    | inr p ↦ sorted x vs t ρ p h.1
  ]

  pub sorts_more : (vs : List (Name × Ty)) (v : Name × Ty) (ρ : Env) → InSorts S vs ρ → HasSort (declared S.theory) (ρ v.0) (instance S.types v.1) → InSorts S (vs ++ v ∷ []) ρ
  sorts_more [] v ρ h s = (s, tt)
  sorts_more (u ∷ vs) v ρ h s = (h.0, sorts_more vs v ρ h.1 s)

  pub hyps_more : (hs more : List (Label2 × Term)) (ρ : Env) → AllHold S hs ρ → AllHold S more ρ → AllHold S (hs ++ more) ρ
  hyps_more [] more ρ h s = s
  hyps_more (g ∷ hs) more ρ h s = (h.0, hyps_more hs more ρ h.1 s)

  -- ---- split

  both_parts : (f : Term → Sequent) (xs ys : List Term) → AllTrueAt S (map f (xs ++ ys)) → AllTrueAt S (map f xs) × AllTrueAt S (map f ys)
  both_parts f [] ys h = (tt, h)
  both_parts f (x ∷ xs) ys h = let r = both_parts f xs ys h.1 in ((h.0, r.0), r.1)

  pub conjuncts_sound : (q : Sequent) (t : Term) → AllTrueAt S (map (with_goal q) (conjuncts t)) → IsTrueAt S (with_goal q t)
  conjuncts_sound q (apply both (and_term a (and_term b no_terms))) h ρ z k =
      let p = both_parts (with_goal q) (conjuncts a) (conjuncts b) h in
      (holds_and S a b ρ).1 (conjuncts_sound q a p.0 ρ z k, conjuncts_sound q b p.1 ρ z k)
  conjuncts_sound q t h ρ z k = h.0 ρ z k
