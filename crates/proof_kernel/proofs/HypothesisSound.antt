-- The rules by the form of a hypothesis are sound.
use Rattle.std.proofs.Common.{◌≡◌, ℕ, suc, Bool, true, false, cond, List, [], ◌∷◌, ◌++◌, map, Option, Some, None, refl, sym, subst}
use Rattle.text_core.specs.declared.name.Name.{Name}
use Rattle.logic_term.specs.declared.kinds.Label2.{Label2}
use Rattle.logic_term.specs.Ty.{Ty}
use Rattle.logic_term.specs.Term.{denied, equal, both, either, implied, choice, every, some, Term, truth, apply, bind, no_terms, and_term, not, and, or}
use Rattle.logic_term.specs.Meaning.{Structure, Env, with_value, Holds}
use Rattle.logic_term.proofs.Alike.{yes_alike}
use Rattle.logic_term.proofs.Truth.{holds_false, holds_not, holds_and, holds_or, holds_implies, holds_forall, holds_exists, choice_true, choice_false}
use Rattle.proof_kernel.specs.Sequent.{Sequent, InSorts, AllHold, IsTrueAt, AllTrueAt}
use Rattle.proof_kernel.specs.declared.step.HypothesisRule.{HypothesisRule}
use Rattle.proof_kernel.specs.declared.step.HypothesisRule.TheVariants.{Cases, Absurd, Drop, Revert, Back, Inject, Differ}
use Rattle.proof_kernel.specs.HypothesisRules.{is_false, disjuncts, alone, pushed, one_case, value_cases, choice_cases, denied_cases, cases_of, in_cases, together, on_hypothesis, hypothesis_rule}
use Rattle.proof_kernel.specs.Rules.{same_label, hypothesis, without, labelled, with_hyps, conjuncts}
use Rattle.proof_kernel.specs.BackRule.{back_of}
use Rattle.proof_kernel.specs.ConstructorRules.{injected, equates_apart}
use Rattle.proof_kernel.specs.SortTests.{are_formulas}
use Rattle.proof_kernel.proofs.BackSound.{back_holds}
use Rattle.proof_kernel.proofs.ConstructorSound.{parts_are_equal, apart_fails}
use Rattle.proof_kernel.proofs.Facts.{AllTrue}
use Rattle.proof_kernel.proofs.FormsFound.{same_some, picked, one_found}
use Rattle.proof_kernel.proofs.GoalSound.{these_true, is_closed}
use Rattle.proof_kernel.proofs.PairSound.{adding_sound}
use Rattle.proof_kernel.proofs.Sound.{held, hyps_more}
use Rattle.proof_kernel.proofs.SortValue.{equal_agree, unequal_differ}

module _ (S : Structure) where
  without_hold : (l : Label2) (hs : List (Label2 × Term)) (ρ : Env) → AllHold S hs ρ → AllHold S (without l hs) ρ
  without_hold l [] ρ k = tt
  without_hold l (h ∷ hs) ρ k = kept (same_label l h.0) (without_hold l hs ρ k.1)
    where
      kept : (b : Bool) → AllHold S (without l hs) ρ → AllHold S (cond b (without l hs) (h ∷ without l hs)) ρ
      kept true r = r
      kept false r = (k.0, r)

  false_fails : (t : Term) (ρ : Env) → is_false t ≡ true → Holds S t ρ → ⊥
  false_fails (truth false) ρ e h = holds_false S ρ h
  false_fails t ρ e h = absurd (cc)

  -- ---- cases

  -- the formulas are true together
  abbrev Together : List Term → Env → Type 0
  Together [] ρ = Unit {0}
  Together (t ∷ ts) ρ = Holds S t ρ × Together ts ρ

  together_and : (ts us : List Term) (ρ : Env) → Together ts ρ → Together us ρ → Together (ts ++ us) ρ
  together_and [] us ρ h g = g
  together_and (t ∷ ts) us ρ h g = (h.0, together_and ts us ρ h.1 g)

  labelled_hold : (s k : ℕ) (ts : List Term) (ρ : Env) → Together ts ρ → AllHold S (labelled s k ts) ρ
  labelled_hold s k [] ρ h = tt
  labelled_hold s k (t ∷ ts) ρ h = (h.0, labelled_hold s (suc k) ts ρ h.1)

  -- in no case all formulas are true
  abbrev NoCase : List (List Term) → Env → Type 0
  NoCase [] ρ = Unit {0}
  NoCase (ts ∷ tss) ρ = (Together ts ρ → ⊥) × NoCase tss ρ

  conjuncts_hold : (t : Term) (ρ : Env) → Holds S t ρ → Together (conjuncts t) ρ
  conjuncts_hold (apply both (and_term a (and_term b no_terms))) ρ h =
      let p = (holds_and S a b ρ).0 h in together_and (conjuncts a) (conjuncts b) ρ (conjuncts_hold a ρ p.0) (conjuncts_hold b ρ p.1)
  conjuncts_hold t ρ h = (h, tt)

  no_case_parts : (ts us : List Term) (ρ : Env) → NoCase (map alone (ts ++ us)) ρ → NoCase (map alone ts) ρ × NoCase (map alone us) ρ
  no_case_parts [] us ρ n = (tt, n)
  no_case_parts (t ∷ ts) us ρ n = let r = no_case_parts ts us ρ n.1 in ((n.0, r.0), r.1)

  disjuncts_fail : (t : Term) (ρ : Env) → NoCase (map alone (disjuncts t)) ρ → Holds S t ρ → ⊥
  disjuncts_fail (apply either (and_term a (and_term b no_terms))) ρ n h =
      let p = no_case_parts (disjuncts a) (disjuncts b) ρ n in (holds_or S a b ρ).0 h (disjuncts_fail a ρ p.0, disjuncts_fail b ρ p.1)
  disjuncts_fail t ρ n h = n.0 (h, tt)

  pushed_holds : (t u : Term) (ρ : Env) → pushed t ≡ Some u → (Holds S t ρ → ⊥) → Holds S u ρ
  pushed_holds (apply both (and_term a (and_term b no_terms))) u ρ e n =
      subst (λ (v : Term). Holds S v ρ) (same_some _ u e) ((holds_or S (not a) (not b) ρ).1
      (λ p. p.0 ((holds_not S a ρ).1 (λ h. p.1 ((holds_not S b ρ).1 (λ g. n ((holds_and S a b ρ).1 (h, g))))))))
  pushed_holds (apply either (and_term a (and_term b no_terms))) u ρ e n =
      subst (λ (v : Term). Holds S v ρ) (same_some _ u e) ((holds_and S (not a) (not b) ρ).1
      ((holds_not S a ρ).1 (λ h. n ((holds_or S a b ρ).1 (λ p. p.0 h))), (holds_not S b ρ).1 (λ h. n ((holds_or S a b ρ).1 (λ p. p.1 h)))))
  pushed_holds (apply implied (and_term a (and_term b no_terms))) u ρ e n =
      subst (λ (v : Term). Holds S v ρ) (same_some _ u e) ((holds_and S a (not b) ρ).1
      ((λ m. n ((holds_implies S a b ρ).1 (λ h. absurd (h m)))), (holds_not S b ρ).1 (λ g. n ((holds_implies S a b ρ).1 (λ h. g)))))
  pushed_holds (apply denied (and_term a no_terms)) u ρ e n =
      subst (λ (v : Term). Holds S v ρ) (same_some _ u e) (λ m. n ((holds_not S a ρ).1 (λ h. h m)))
  pushed_holds (bind some x r a) u ρ e n =
      subst (λ (v : Term). Holds S v ρ) (same_some _ u e) ((holds_forall S x r (not a) ρ).1
      (λ w z. (holds_not S a (with_value ρ x w)).1 (λ h. n ((holds_exists S x r a ρ).1 (λ g. g w z h)))))
  pushed_holds (bind every x r a) u ρ e n =
      subst (λ (v : Term). Holds S v ρ) (same_some _ u e) ((holds_exists S x r (not a) ρ).1
      (λ g. n ((holds_forall S x r a ρ).1 (λ w z m. g w z ((holds_not S a (with_value ρ x w)).1 (λ h. h m))))))
  pushed_holds t u ρ e n = absurd (cc)

  -- one of both sides is so, by the truth of the condition
  choice_case : (holds : Bool) (c a b : Term) (ρ : Env) → (Holds S c ρ → Holds S (cond holds a (not a)) ρ) → ((Holds S c ρ → ⊥) → Holds S (cond holds b (not b)) ρ) → NoCase (choice_cases holds c a b) ρ → ⊥
  choice_case holds c a b ρ first second n =
      let fails : Holds S c ρ → ⊥ = λ y. n.0 (y, (first y, tt)) in
      n.1.0 ((holds_not S c ρ).1 fails, (second fails, tt))

  one_case_fails : (o : Option Term) (tss : List (List Term)) (ρ : Env) → one_case o ≡ Some tss → ((t : Term) → o ≡ Some t → Holds S t ρ) → NoCase tss ρ → ⊥
  one_case_fails None tss ρ e f n = absurd (cc)
  one_case_fails (Some t) tss ρ e f n = (subst (λ (c : List (List Term)). NoCase c ρ) (sym (same_some _ tss e)) n).0 (f t refl, tt)

  module _ (vars : List (Name × Ty)) (ρ : Env) (z : InSorts S vars ρ) where
    chosen : (tss us : List (List Term)) (b : Bool) → cond b (Some us) None ≡ Some tss → NoCase tss ρ → (b ≡ true) × NoCase us ρ
    chosen tss us b e n = let p = picked b us tss e in (p.0, subst (λ (c : List (List Term)). NoCase c ρ) (sym p.1) n)

    denied_case : (t : Term) (tss : List (List Term)) → denied_cases vars t ≡ Some tss → (Holds S t ρ → ⊥) → NoCase tss ρ → ⊥
    denied_case (apply equal (and_term a (and_term b no_terms))) tss e d n =
        let p = chosen tss (value_cases false a b) (are_formulas vars a b) e n in
        unequal_differ S vars ρ z a b p.0 d (λ h g. p.1.0 (h, (g, tt))) (λ h g. p.1.1.0 (h, (g, tt)))
    denied_case (apply choice (and_term c (and_term a (and_term b no_terms)))) tss e d n =
        choice_case false c a b ρ
        (λ y. (holds_not S a ρ).1 (λ g. d ((yes_alike _ _ (choice_true S c a b ρ y)).1 g)))
        (λ y. (holds_not S b ρ).1 (λ g. d ((yes_alike _ _ (choice_false S c a b ρ y)).1 g)))
        (subst (λ (o : List (List Term)). NoCase o ρ) (sym (same_some _ tss e)) n)
    denied_case t tss e d n = one_case_fails (pushed t) tss ρ e (λ u f. pushed_holds t u ρ f d) n

    -- a true formula has a case
    some_case : (t : Term) (tss : List (List Term)) → cases_of vars t ≡ Some tss → Holds S t ρ → NoCase tss ρ → ⊥
    some_case (apply both (and_term a (and_term b no_terms))) tss e h n =
        (subst (λ (c : List (List Term)). NoCase c ρ) (sym (same_some _ tss e)) n).0 (conjuncts_hold (and a b) ρ h)
    some_case (apply either (and_term a (and_term b no_terms))) tss e h n =
        disjuncts_fail (or a b) ρ (subst (λ (c : List (List Term)). NoCase c ρ) (sym (same_some _ tss e)) n) h
    some_case (apply implied (and_term a (and_term b no_terms))) tss e h n =
        let p = subst (λ (c : List (List Term)). NoCase c ρ) (sym (same_some _ tss e)) n in
        p.0 ((holds_not S a ρ).1 (λ g. p.1.0 ((holds_implies S a b ρ).0 h g, tt)), tt)
    some_case (apply equal (and_term a (and_term b no_terms))) tss e h n =
        let p = chosen tss (value_cases true a b) (are_formulas vars a b) e n in
        equal_agree S vars ρ z a b p.0 h (λ f g. p.1.0 (f, (g, tt))) (λ f g. p.1.1.0 (f, (g, tt)))
    some_case (apply choice (and_term c (and_term a (and_term b no_terms)))) tss e h n =
        choice_case true c a b ρ
        (λ y. (yes_alike _ _ (choice_true S c a b ρ y)).0 h)
        (λ y. (yes_alike _ _ (choice_false S c a b ρ y)).0 h)
        (subst (λ (o : List (List Term)). NoCase o ρ) (sym (same_some _ tss e)) n)
    some_case (apply denied (and_term a no_terms)) tss e h n = denied_case a tss e ((holds_not S a ρ).0 h) n
    some_case t tss e h n = absurd (cc)

  module _ (s : ℕ) (q : Sequent) (ps : List Sequent) (h : AllTrueAt S ps) where
    -- where the goal is false, no case is so
    no_case : (tss : List (List Term)) (ρ : Env) → AllTrueAt S (map (with_hyps s q) tss) → InSorts S q.vars ρ → AllHold S q.hyps ρ → (Holds S q.goal ρ → ⊥) → NoCase tss ρ
    no_case [] ρ g z k n = tt
    no_case (ts ∷ tss) ρ g z k n = ((λ t. n (g.0 ρ z (hyps_more S q.hyps _ ρ k (labelled_hold s 1 ts ρ t)))), no_case tss ρ g.1 z k n)

    cases_sound : (o : Option (List (List Term))) (t : Term) → cases_of q.vars t ≡ o → in_cases s q o ≡ Some ps → (ρ : Env) → InSorts S q.vars ρ → AllHold S q.hyps ρ → Holds S t ρ → Holds S q.goal ρ
    cases_sound None t c e ρ z k g = absurd (cc)
    cases_sound (Some tss) t c e ρ z k g = λ n. some_case q.vars ρ z t tss c g (no_case tss ρ (these_true S _ ps e h) z k (λ f. f n))

    together_of : (ts : List Term) (ρ : Env) → AllTrue S ts ρ → Together ts ρ
    together_of [] ρ a = tt
    together_of (t ∷ ts) ρ a = (a.0, together_of ts ρ a.1)

    together_sound : (o : Option (List Term)) (ρ : Env) → in_cases s q (together o) ≡ Some ps → InSorts S q.vars ρ → AllHold S q.hyps ρ → ((ts : List Term) → o ≡ Some ts → AllTrue S ts ρ) → Holds S q.goal ρ
    together_sound None ρ e z k f = absurd (cc)
    together_sound (Some ts) ρ e z k f = (these_true S _ ps e h).0 ρ z (hyps_more S q.hyps _ ρ k (labelled_hold s 1 ts ρ (together_of ts ρ (f ts refl))))

    one_sound : (r : HypothesisRule) (l : Label2) (t : Term) → on_hypothesis r s l q t ≡ Some ps → (ρ : Env) → InSorts S q.vars ρ → AllHold S q.hyps ρ → Holds S t ρ → Holds S q.goal ρ
    one_sound Cases l t e ρ z k g = cases_sound (cases_of q.vars t) t refl e ρ z k g
    one_sound Absurd l t e ρ z k g = absurd (false_fails t ρ (is_closed (is_false t) ps e) g)
    one_sound Drop l t e ρ z k g = (these_true S _ ps e h).0 ρ z (without_hold l q.hyps ρ k)
    one_sound Revert l t e ρ z k g = (holds_implies S t q.goal ρ).0 ((these_true S _ ps e h).0 ρ z (without_hold l q.hyps ρ k)) g
    one_sound Back l t e ρ z k g = adding_sound S s q ps h (back_of q.vars t) ρ e z k (λ u is. back_holds S q.vars ρ z t u is g)
    one_sound Inject l t e ρ z k g = together_sound (injected t) ρ e z k (λ ts is. parts_are_equal S ρ t ts is g)
    one_sound Differ l t e ρ z k g = absurd (apart_fails S ρ t (is_closed (equates_apart t) ps e) g)

    pub hypothesis_sound : (r : HypothesisRule) (l : Label2) → hypothesis_rule r s l q ≡ Some ps → IsTrueAt S q
    hypothesis_sound r l e ρ z k = let f = one_found r s l q (hypothesis l q.hyps) ps e in one_sound r l f.0 f.2 ρ z k (held S l q.hyps f.0 ρ f.1 k)
