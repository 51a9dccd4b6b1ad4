-- The rule that decides conditions by a hypothesis is sound.
use Rattle.std.proofs.Common.{◌≡◌, ℕ, ◌≤◌, max, Bool, true, false, cond, List, [], Option, Some, None, refl, sym, subst, arith}
use Rattle.text_core.specs.declared.name.Name.{Name}
use Rattle.logic_term.specs.declared.kinds.Label2.{Label2}
use Rattle.logic_term.specs.Canonical.{above_free}
use Rattle.logic_term.specs.Meaning.{Structure, Env, with_value, Means, Holds}
use Rattle.logic_term.specs.Same.{same_term}
use Rattle.logic_term.specs.Subst.{subst as numbered}
use Rattle.logic_term.specs.Term.{denied, choice, Term, apply, no_terms, and_term, if_else}
use Rattle.logic_term.specs.Value.{Value}
use Rattle.logic_term.proofs.Alike.{Alike, yes_alike}
use Rattle.logic_term.proofs.SameLaw.{same_term_equal}
use Rattle.logic_term.proofs.Truth.{holds_not}
use Rattle.proof_kernel.specs.Sequent.{Sequent, InSorts, AllHold, IsTrueAt, AllTrueAt}
use Rattle.proof_kernel.specs.declared.step.Target.{Target}
use Rattle.proof_kernel.specs.DecideRule.{is_denial, side_where, deciding, decided, decide_by, decide_rule}
use Rattle.proof_kernel.specs.Exchanged.{Instead, side, changed_from}
use Rattle.proof_kernel.specs.Rules.{hypothesis}
use Rattle.proof_kernel.proofs.ExchangeLaw.{unused, numbered_alike, Fits, changed_means}
use Rattle.proof_kernel.proofs.FormsFound.{same_some}
use Rattle.proof_kernel.proofs.RewriteSound.{changed_sound}
use Rattle.proof_kernel.proofs.Sound.{held}

module _ (S : Structure) where
  denial_fails : (c l : Term) (ρ : Env) → is_denial c l ≡ true → Holds S l ρ → Holds S c ρ → ⊥
  denial_fails c (apply denied (and_term a no_terms)) ρ e h g = (holds_not S a ρ).0 h (subst (λ (u : Term). Holds S u ρ) (same_term_equal c a e) g)
  denial_fails c l ρ e h g = absurd (cc)

  -- the side that counts is that of the condition's truth
  side_fits : (l c a b : Term) (i : Instead) (ρ : Env) → Holds S l ρ → side_where l c ≡ Some i → Fits S i (if_else c a b) ρ
  side_fits l c a b i ρ h is = at (same_term c l) (is_denial c l) refl refl is
    where
      at : (x y : Bool) → same_term c l ≡ x → is_denial c l ≡ y → cond x (Some (side true)) (cond y (Some (side false)) None) ≡ Some i → Fits S i (if_else c a b) ρ
      at true y p r e = subst (λ (j : Instead). Fits S j (if_else c a b) ρ) (same_some (side true) i e) (subst (λ (u : Term). Holds S u ρ) (sym (same_term_equal c l p)) h)
      at false true p r e = subst (λ (j : Instead). Fits S j (if_else c a b) ρ) (same_some (side false) i e) (denial_fails c l ρ r h)
      at false false p r e = absurd (cc)

  module _ (l t : Term) (n : ℕ) (in_t : above_free [] t ≤ n) (in_l : above_free [] l ≤ n) where
    stays : (ρ : Env) (x : Name) (w : Value) → Holds S l ρ → n ≤ x.0 → Holds S l (with_value ρ x w)
    stays ρ x w h m = (yes_alike _ _ (unused S l n ρ x w in_l m)).0 h

    right : (ρ : Env) → Holds S l ρ → (k : ℕ) → n ≤ k → (u : Term) (i : Instead) → deciding l k u ≡ Some i → Fits S i u ρ
    right ρ h k m (apply choice (and_term c (and_term a (and_term b no_terms)))) i is = side_fits (numbered k [] l) c a b i ρ ((yes_alike _ _ (numbered_alike S l k ρ (omega (arith, in_l, m)))).1 h) is
    right ρ h k m u i is = absurd (cc)

    changed_alike : (ρ : Env) → Holds S l ρ → Alike (Means S t ρ) (Means S (changed_from (deciding l) n t) ρ)
    changed_alike ρ h = changed_means S (deciding l) n (Holds S l) right stays t ρ in_t h

  decided_alike : (l t : Term) (ρ : Env) → Holds S l ρ → Alike (Means S t ρ) (Means S (decided l t) ρ)
  decided_alike l t ρ h = changed_alike l t (max (above_free [] t) (above_free [] l)) (omega arith) (omega arith) ρ h

  module _ (s : ℕ) (q : Sequent) (ps : List Sequent) (h : AllTrueAt S ps) where
    pub decide_sound : (l : Label2) (to : Target) → decide_rule s q l to ≡ Some ps → IsTrueAt S q
    decide_sound l to e = at (hypothesis l q.hyps) refl e
      where
        at : (o : Option Term) → hypothesis l q.hyps ≡ o → decide_by s q to o ≡ Some ps → IsTrueAt S q
        at None is f = absurd (cc)
        at (Some t) is f = λ ρ z k. changed_sound S s q ps h to (decided t) ρ f z k (λ u. decided_alike t u ρ (held S l q.hyps t ρ is k))
