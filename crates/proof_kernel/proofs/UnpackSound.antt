-- Taking an existential hypothesis apart is sound: the value that there is may be that of the new variable, which nothing else speaks of.
use Rattle.std.proofs.Common.{◌≡◌, ℕ, ◌==◌, ◌||◌, Bool, true, false, cond, List, [], ◌∷◌, Option, Some, None, refl, sym, subst}
use Rattle.text_core.specs.declared.name.Name.{Name}
use Rattle.logic_term.specs.declared.kinds.Label2.{Label2}
use Rattle.logic_term.specs.declared.subst.Renaming.{Renaming}
use Rattle.logic_term.specs.Canonical.{is_one_of}
use Rattle.logic_term.specs.Free.{free}
use Rattle.logic_term.specs.Meaning.{Structure, Env, with_value, Means, Holds}
use Rattle.logic_term.specs.Sort.{HasSort, instance}
use Rattle.logic_term.specs.Term.{some, Term, bind, exists}
use Rattle.logic_term.specs.Theory.{declared}
use Rattle.logic_term.specs.Ty.{Ty}
use Rattle.logic_term.specs.Value.{Value}
use Rattle.logic_term.proofs.Alike.{yes_alike}
use Rattle.logic_term.proofs.Coincide.{with_same}
use Rattle.logic_term.proofs.FreeLaw.{coincide_free}
use Rattle.logic_term.proofs.Truth.{holds_exists}
use Rattle.proof_kernel.specs.Intro.{declaring}
use Rattle.proof_kernel.specs.Rules.{same_label, hypothesis, free_in_hyps, with_hyps, IsNew, AreNew}
use Rattle.proof_kernel.specs.Sequent.{Sequent, InSorts, AllHold, IsTrueAt, AllTrueAt}
use Rattle.proof_kernel.specs.UnpackRule.{under_name, unpacking, unpack_rule}
use Rattle.proof_kernel.proofs.GoalSound.{these_true}
use Rattle.proof_kernel.proofs.IntroSound.{name_in, either_false, among_new, not_both, apart, Off, under_binder, renamed_means, off_more, sorts_off, hyps_off}
use Rattle.proof_kernel.proofs.Sound.{held, sorts_more, hyps_more}

-- what is free in no hypothesis is not free in one
not_free_in : (y : Name) (l : Label2) (hs : List (Label2 × Term)) (t : Term) → hypothesis l hs ≡ Some t → free_in_hyps y hs ≡ false → free y t ≡ false
not_free_in y l [] t e f = absurd (cc)
not_free_in y l (g ∷ hs) t e f = let parts = either_false (free y g.1) (free_in_hyps y hs) f in at (same_label l g.0) e parts.0 (λ is. not_free_in y l hs t is parts.1)
  where
    at : (b : Bool) → cond b (Some g.1) (hypothesis l hs) ≡ Some t → free y g.1 ≡ false → (hypothesis l hs ≡ Some t → free y t ≡ false) → free y t ≡ false
    at true is first others = let same : g.1 ≡ t = cc in subst (λ (u : Term). free y u ≡ false) same first
    at false is first others = others is

module _ (S : Structure) (s : ℕ) (q : Sequent) (ps : List Sequent) (h : AllTrueAt S ps) where
  module _ (l : Label2) (y x : Name) (r : Ty) (t : Term) (new : IsNew y q) (is : hypothesis l q.hyps ≡ Some (exists x r t)) (prem : IsTrueAt S (with_hyps s (declaring q y r) (under_name x y t ∷ []))) where
    news : AreNew (y ∷ []) q
    news = (new, refl, tt)

    -- where the new variable has the value
    module _ (ρ : Env) (z : InSorts S q.vars ρ) (k : AllHold S q.hyps ρ) (w : Value) where
      abbrev σ : Env
      σ = with_value ρ y w

      off : Off S (y ∷ []) ρ σ
      off = off_more S y [] ρ w σ (λ v e. refl)

      is_apart : (v : Name) → (IsNew v q → ⊥) → is_one_of v (y ∷ []) ≡ false
      is_apart v n = apart (y ∷ []) v (λ e. n (among_new (y ∷ []) q v news e))

      renamed_at : (v : Name) → free v t ≡ true → with_value ρ x w v ≡ σ (name_in (record { from = x; to = y } ∷ []) v)
      renamed_at v f = at (v.0 == x.0) refl
        where
          at : (b : Bool) → (v.0 == x.0) ≡ b → cond b w (ρ v) ≡ σ (cond b y v)
          at true e = sym (with_same ρ y w)
          at false e = sym (off v (is_apart v (λ n. not_both (free v (exists x r t)) (under_binder S (v.0 == x.0) (free v t) e f) (not_free_in v l q.hyps (exists x r t) is n.in_hyps))))

      shown : HasSort (declared S.theory) w (instance S.types r) → Holds S t (with_value ρ x w) → Holds S q.goal ρ
      shown sort body =
          let vars : InSorts S q.vars σ = sorts_off S (y ∷ []) q.vars ρ σ (λ v e. (among_new (y ∷ []) q v news e).in_vars) off z in
          let hyps : AllHold S q.hyps σ = hyps_off S (y ∷ []) q.hyps ρ σ (λ v e. (among_new (y ∷ []) q v news e).in_hyps) off k in
          let own : HasSort (declared S.theory) (σ y) (instance S.types r) = subst (λ (u : Value). HasSort (declared S.theory) u (instance S.types r)) (sym (with_same ρ y w)) sort in
          let moved : Holds S t (λ v. σ (name_in (record { from = x; to = y } ∷ []) v)) = (yes_alike _ _ (coincide_free S t (with_value ρ x w) (λ v. σ (name_in (record { from = x; to = y } ∷ []) v)) renamed_at)).0 body in
          let opened : Holds S (under_name x y t) σ = (yes_alike _ _ (renamed_means S (record { from = x; to = y } ∷ []) t σ)).1 moved in
          let goal : Holds S q.goal σ = prem σ (sorts_more S q.vars (y, r) σ vars own) (hyps_more S q.hyps _ σ hyps (opened, tt)) in
          (yes_alike _ _ (coincide_free S q.goal ρ σ (λ v f. sym (off v (is_apart v (λ n. not_both (free v q.goal) f n.in_goal)))))).1 goal

    unpacked_true : IsTrueAt S q
    unpacked_true ρ z k n = (holds_exists S x r t ρ).0 (held S l q.hyps (exists x r t) ρ is k) (λ w sort body. shown ρ z k w sort body n)

  pub unpack_sound : (l : Label2) (y : Name) → IsNew y q → unpack_rule s q l y ≡ Some ps → IsTrueAt S q
  unpack_sound l y new e = at (hypothesis l q.hyps) refl e
    where
      at : (o : Option Term) → hypothesis l q.hyps ≡ o → unpacking s q y o ≡ Some ps → IsTrueAt S q
      at None is f = absurd (cc)
      at (Some (bind some x r t)) is f = unpacked_true l y x r t new is (these_true S _ ps f h).0
      at (Some t) is f = absurd (cc)
