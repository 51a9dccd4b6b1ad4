-- The rules by the form of the goal are sound.
use Rattle.std.proofs.Common.{◌≡◌, ℕ, Bool, true, false, List, [], ◌∷◌, map, Option, Some, None, refl, sym, ap, subst}
use Rattle.logic_term.specs.Term.{denied, equal, either, Term, truth, apply, no_terms, and_term, not, implies, is_at_most}
use Rattle.logic_term.specs.Canonical.{canonical, SameUpToNames}
use Rattle.logic_term.specs.Meaning.{Structure, Env, Holds}
use Rattle.logic_term.proofs.Alike.{sure_map, to}
use Rattle.logic_term.proofs.CanonicalLaw.{same_up_to_names_means}
use Rattle.logic_term.proofs.SameLaw.{same_term_equal}
use Rattle.logic_term.proofs.Truth.{holds_truth, holds_false, holds_not, holds_or, holds_equal}
use Rattle.logic_term.proofs.Unique.{single}
use Rattle.proof_kernel.specs.Sequent.{Sequent, InSorts, AllHold, IsTrueAt, AllTrueAt}
use Rattle.proof_kernel.specs.declared.step.GoalRule.{GoalRule}
use Rattle.proof_kernel.specs.declared.step.GoalRule.TheVariants.{Refl, Truth, Left, Right, Contra, ByContradiction, Iff, Antisymmetry}
use Rattle.proof_kernel.specs.GoalRules.{is_reflexive, is_true, left_of, right_of, denied_of, both_ways, both_orders, to_show, to_show_all, refuting, to_refute, goal_rule}
use Rattle.proof_kernel.specs.Rules.{same_up_to_names, with_goal, closed_if}
use Rattle.proof_kernel.specs.SortTests.{are_formulas, are_integers}
use Rattle.proof_kernel.proofs.FormsFound.{same_some, picked}
use Rattle.proof_kernel.proofs.Sound.{hyps_more}
use Rattle.proof_kernel.proofs.SortValue.{iff_holds, orders_hold}

pub same_names : (t u : Term) → same_up_to_names t u ≡ true → SameUpToNames t u
same_names t u e = same_term_equal (canonical t) (canonical u) e

pub these_true : (S : Structure) (rs ps : List Sequent) → Some rs ≡ Some ps → AllTrueAt S ps → AllTrueAt S rs
these_true S rs ps e h = subst (AllTrueAt S) (sym (same_some rs ps e)) h

pub is_closed : (b : Bool) (ps : List Sequent) → closed_if b ≡ Some ps → b ≡ true
is_closed true ps e = refl
is_closed false ps e = absurd (cc)

module _ (S : Structure) where
  reflexive_holds : (t : Term) (ρ : Env) → is_reflexive t ≡ true → Holds S t ρ
  reflexive_holds (apply equal (and_term a (and_term b no_terms))) ρ e =
      (holds_equal S a b ρ).1 (λ x y p r. sure_map _ _ (λ m. single S b ρ x y m r) (to _ _ (same_up_to_names_means S a b ρ (same_names a b e)) x p))
  reflexive_holds t ρ e = absurd (cc)

  true_holds : (t : Term) (ρ : Env) → is_true t ≡ true → Holds S t ρ
  true_holds (truth true) ρ e = holds_truth S ρ
  true_holds t ρ e = absurd (cc)

  left_holds : (t a : Term) (ρ : Env) → left_of t ≡ Some a → Holds S a ρ → Holds S t ρ
  left_holds (apply either (and_term a (and_term b no_terms))) c ρ e h =
      (holds_or S a b ρ).1 (λ p. p.0 (subst (λ (u : Term). Holds S u ρ) (sym (same_some a c e)) h))
  left_holds t c ρ e h = absurd (cc)

  right_holds : (t b : Term) (ρ : Env) → right_of t ≡ Some b → Holds S b ρ → Holds S t ρ
  right_holds (apply either (and_term a (and_term b no_terms))) c ρ e h =
      (holds_or S a b ρ).1 (λ p. p.1 (subst (λ (u : Term). Holds S u ρ) (sym (same_some b c e)) h))
  right_holds t c ρ e h = absurd (cc)

  denied_holds : (t a : Term) (ρ : Env) → denied_of t ≡ Some a → (Holds S a ρ → ⊥) → Holds S t ρ
  denied_holds (apply denied (and_term a no_terms)) c ρ e n =
      (holds_not S a ρ).1 (λ h. n (subst (λ (u : Term). Holds S u ρ) (same_some a c e) h))
  denied_holds t c ρ e n = absurd (cc)

  module _ (s : ℕ) (q : Sequent) (ps : List Sequent) (h : AllTrueAt S ps) where
    pub to_show_sound : (o : Option Term) → ((t : Term) (ρ : Env) → o ≡ Some t → Holds S t ρ → Holds S q.goal ρ) → to_show q o ≡ Some ps → IsTrueAt S q
    to_show_sound None f e = absurd (cc)
    to_show_sound (Some t) f e = λ ρ z k. f t ρ refl ((these_true S _ ps e h).0 ρ z k)

    refuted : (t : Term) (ρ : Env) → IsTrueAt S (refuting s q t) → InSorts S q.vars ρ → AllHold S q.hyps ρ → Holds S t ρ → ⊥
    refuted t ρ r z k g = holds_false S ρ (r ρ z (hyps_more S q.hyps _ ρ k (g, tt)))

    to_refute_sound : (o : Option Term) → ((t : Term) (ρ : Env) → o ≡ Some t → (Holds S t ρ → ⊥) → Holds S q.goal ρ) → to_refute s q o ≡ Some ps → IsTrueAt S q
    to_refute_sound None f e = absurd (cc)
    to_refute_sound (Some t) f e = λ ρ z k. f t ρ refl (refuted t ρ (these_true S _ ps e h).0 z k)

    both_true : (t u : Term) (ρ : Env) → AllTrueAt S (map (with_goal q) (t ∷ u ∷ [])) → InSorts S q.vars ρ → AllHold S q.hyps ρ → Holds S t ρ × Holds S u ρ
    both_true t u ρ g z k = (g.0 ρ z k, g.1.0 ρ z k)

    shown : (us : List Term) (o : Option (List Term)) → o ≡ Some us → to_show_all q o ≡ Some ps → AllTrueAt S (map (with_goal q) us)
    shown us None c e = absurd (cc)
    shown us (Some ts) c e = subst (λ (xs : List Term). AllTrueAt S (map (with_goal q) xs)) (same_some ts us c) (these_true S _ ps e h)

    both_ways_sound : (t : Term) (ρ : Env) (o : Option (List Term)) → both_ways q.vars t ≡ o → to_show_all q o ≡ Some ps → InSorts S q.vars ρ → AllHold S q.hyps ρ → Holds S t ρ
    both_ways_sound (apply equal (and_term a (and_term b no_terms))) ρ None c e z k = absurd (cc)
    both_ways_sound (apply equal (and_term a (and_term b no_terms))) ρ (Some ts) c e z k =
        let p = picked (are_formulas q.vars a b) (implies a b ∷ implies b a ∷ []) ts c in
        let both = both_true (implies a b) (implies b a) ρ (shown (implies a b ∷ implies b a ∷ []) (Some ts) (ap Some (sym p.1)) e) z k in
        iff_holds S q.vars ρ z a b p.0 both.0 both.1
    both_ways_sound t ρ o c e z k = absurd (cc)

    both_orders_sound : (t : Term) (ρ : Env) (o : Option (List Term)) → both_orders q.vars t ≡ o → to_show_all q o ≡ Some ps → InSorts S q.vars ρ → AllHold S q.hyps ρ → Holds S t ρ
    both_orders_sound (apply equal (and_term a (and_term b no_terms))) ρ None c e z k = absurd (cc)
    both_orders_sound (apply equal (and_term a (and_term b no_terms))) ρ (Some ts) c e z k =
        let p = picked (are_integers q.vars a b) (is_at_most a b ∷ is_at_most b a ∷ []) ts c in
        let both = both_true (is_at_most a b) (is_at_most b a) ρ (shown (is_at_most a b ∷ is_at_most b a ∷ []) (Some ts) (ap Some (sym p.1)) e) z k in
        orders_hold S q.vars ρ z a b p.0 both.0 both.1
    both_orders_sound t ρ o c e z k = absurd (cc)

    pub goal_sound : (r : GoalRule) → goal_rule r s q ≡ Some ps → IsTrueAt S q
    goal_sound Refl e = λ ρ z k. reflexive_holds q.goal ρ (is_closed (is_reflexive q.goal) ps e)
    goal_sound Truth e = λ ρ z k. true_holds q.goal ρ (is_closed (is_true q.goal) ps e)
    goal_sound Left e = to_show_sound (left_of q.goal) (λ t ρ f g. left_holds q.goal t ρ f g) e
    goal_sound Right e = to_show_sound (right_of q.goal) (λ t ρ f g. right_holds q.goal t ρ f g) e
    goal_sound Contra e = to_refute_sound (denied_of q.goal) (λ t ρ f n. denied_holds q.goal t ρ f n) e
    goal_sound ByContradiction e = λ ρ z k n. refuted (not q.goal) ρ (these_true S _ ps e h).0 z k ((holds_not S q.goal ρ).1 (λ g. g n))
    goal_sound Iff e = λ ρ z k. both_ways_sound q.goal ρ (both_ways q.vars q.goal) refl e z k
    goal_sound Antisymmetry e = λ ρ z k. both_orders_sound q.goal ρ (both_orders q.vars q.goal) refl e z k
