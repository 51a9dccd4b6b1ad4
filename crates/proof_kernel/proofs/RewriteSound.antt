-- The rule that puts an equation into the goal, or into a hypothesis, is sound.
use Rattle.std.proofs.Common.{◌≡◌, ℕ, ◌≤◌, ◌<◌, max, true, false, List, [], Option, Some, None, refl, sym, subst, arith}
use Rattle.std.specs.Option.{option_map}
use Rattle.text_core.specs.declared.name.Name.{Name}
use Rattle.logic_term.specs.declared.kinds.Label2.{Label2}
use Rattle.logic_term.specs.Canonical.{above_free}
use Rattle.logic_term.specs.Meaning.{Structure, Env, with_value, Means, Holds}
use Rattle.logic_term.specs.Same.{same_term}
use Rattle.logic_term.specs.Subst.{subst as numbered}
use Rattle.logic_term.specs.Term.{equal, Term, apply, no_terms, and_term, is_equal}
use Rattle.logic_term.specs.Value.{Value}
use Rattle.logic_term.proofs.Alike.{sure_map, Alike, alike, alike_back, alike_then, yes_alike}
use Rattle.logic_term.proofs.SameLaw.{same_term_equal}
use Rattle.logic_term.proofs.Truth.{holds_equal}
use Rattle.logic_term.proofs.Unique.{has_value}
use Rattle.proof_kernel.specs.Sequent.{Sequent, InSorts, AllHold, IsTrueAt, AllTrueAt}
use Rattle.proof_kernel.specs.declared.step.Direction.{Direction}
use Rattle.proof_kernel.specs.declared.step.Direction.TheVariants.{Forward, Backward}
use Rattle.proof_kernel.specs.declared.step.Rewriting.{Rewriting}
use Rattle.proof_kernel.specs.declared.step.Target.{Target}
use Rattle.proof_kernel.specs.declared.step.Target.TheVariants.{Goal, Hyp}
use Rattle.proof_kernel.specs.Exchanged.{Instead, put, changed_from}
use Rattle.proof_kernel.specs.RewriteRules.{for_each, past, rewritten, sides, changing, rewrite_rule}
use Rattle.proof_kernel.specs.Rules.{hypothesis}
use Rattle.proof_kernel.proofs.ExchangeLaw.{unused, numbered_alike, Fits, changed_means}
use Rattle.proof_kernel.proofs.FormsFound.{same_some, picked, mapped, rewriting_found}
use Rattle.proof_kernel.proofs.GoalSound.{these_true}
use Rattle.proof_kernel.proofs.PairSound.{adding_sound}
use Rattle.proof_kernel.proofs.Sound.{held}

module _ (S : Structure) where
  -- ---- the values of rewritten terms

  -- both sides of a true equation have the same values
  sides_alike : (a b : Term) (ρ : Env) → Holds S (is_equal a b) ρ → Alike (Means S a ρ) (Means S b ρ)
  sides_alike a b ρ h =
      let same = (holds_equal S a b ρ).0 h in
      alike _ _
      (λ v p n. has_value S b ρ (λ (y : (w : Value) × Means S b ρ w). same v y.0 p y.1 (λ e. n (subst (λ w. Means S b ρ w) (sym e) y.1))))
      (λ v p n. has_value S a ρ (λ (x : (w : Value) × Means S a ρ w). same x.0 v x.1 p (λ e. n (subst (λ w. Means S a ρ w) e x.1))))

  module _ (a b t : Term) (n : ℕ) (in_t : above_free [] t ≤ n) (in_a : above_free [] a ≤ n) (in_b : above_free [] b ≤ n) where
    abbrev Same : Env → Type 0
    Same ρ = Alike (Means S a ρ) (Means S b ρ)

    stays : (ρ : Env) (x : Name) (w : Value) → Same ρ → n ≤ x.0 → Same (with_value ρ x w)
    stays ρ x w e l = alike_then _ _ _ (alike_back _ _ (unused S a n ρ x w in_a l)) (alike_then _ _ _ e (unused S b n ρ x w in_b l))

    right : (ρ : Env) → Same ρ → (k : ℕ) → n ≤ k → (u : Term) (i : Instead) → for_each a b k u ≡ Some i → Fits S i u ρ
    right ρ e k l u i is =
        let p = picked (same_term u (numbered k [] a)) (put b) i is in
        let own : Alike (Means S (numbered k [] a) ρ) (Means S a ρ) = numbered_alike S a k ρ (omega (arith, in_a, l)) in
        let found : Alike (Means S u ρ) (Means S a ρ) = subst (λ w. Alike (Means S w ρ) (Means S a ρ)) (sym (same_term_equal u (numbered k [] a) p.0)) own in
        subst (λ (j : Instead). Fits S j u ρ) p.1 (alike_then _ _ _ found e)

    changed_alike : (ρ : Env) → Same ρ → Alike (Means S t ρ) (Means S (changed_from (for_each a b) n t) ρ)
    changed_alike ρ e = changed_means S (for_each a b) n Same right stays t ρ in_t e

  rewritten_alike : (a b t : Term) (ρ : Env) → Alike (Means S a ρ) (Means S b ρ) → Alike (Means S t ρ) (Means S (rewritten a b t) ρ)
  rewritten_alike a b t ρ e = changed_alike a b t (past a b t) (omega arith) (omega arith) (omega arith) ρ e

  -- ---- the rule

  directed : (d : Direction) (t : Term) (ab : Term × Term) (ρ : Env) → sides d t ≡ Some ab → Holds S t ρ → Alike (Means S ab.0 ρ) (Means S ab.1 ρ)
  directed Forward (apply equal (and_term a (and_term b no_terms))) ab ρ e h =
      subst (λ (p : Term × Term). Alike (Means S p.0 ρ) (Means S p.1 ρ)) (same_some (a, b) ab e) (sides_alike a b ρ h)
  directed Backward (apply equal (and_term a (and_term b no_terms))) ab ρ e h =
      subst (λ (p : Term × Term). Alike (Means S p.0 ρ) (Means S p.1 ρ)) (same_some (b, a) ab e) (alike_back _ _ (sides_alike a b ρ h))
  directed d t ab ρ e h = absurd (cc)

  module _ (s : ℕ) (q : Sequent) (ps : List Sequent) (h : AllTrueAt S ps) where
    -- what has the values of each term is put
    pub changed_sound : (to : Target) (f : Term → Term) (ρ : Env) → changing s q to f ≡ Some ps → InSorts S q.vars ρ → AllHold S q.hyps ρ → ((t : Term) → Alike (Means S t ρ) (Means S (f t) ρ)) → Holds S q.goal ρ
    changed_sound Goal f ρ e z k same = (yes_alike _ _ (same q.goal)).1 ((these_true S _ ps e h).0 ρ z k)
    changed_sound (Hyp l) f ρ e z k same = adding_sound S s q ps h (option_map f (hypothesis l q.hyps)) ρ e z k (λ u is.
        let m = mapped f (hypothesis l q.hyps) u is in
        subst (λ v. Holds S v ρ) m.2 ((yes_alike _ _ (same m.0)).0 (held S l q.hyps m.0 ρ m.1 k)))

    pub rewrite_sound : (r : Rewriting) → rewrite_rule r s q ≡ Some ps → IsTrueAt S q
    rewrite_sound r e ρ z k =
        let f = rewriting_found r s q ps e in
        let same : Alike (Means S f.1.0 ρ) (Means S f.1.1 ρ) = directed r.direction f.0 f.1 ρ f.3 (held S r.equation q.hyps f.0 ρ f.2 k) in
        changed_sound r.target (rewritten f.1.0 f.1.1) ρ f.4 z k (λ t. rewritten_alike f.1.0 f.1.1 t ρ same)
