-- The rules by the forms of two hypotheses are sound.
use Rattle.std.proofs.Common.{◌≡◌, ℕ, true, List, Option, Some, None, refl, subst, arith}
use Rattle.std.specs.Prelude.{ℤ, pos, ◌-ℤ◌, ◌*ℤ◌, ◌≤ℤ◌}
use Rattle.std.proofs.lemmas.Int.{ints}
use Rattle.source_kinds.specs.declared.kinds.ArithOp.TheVariants.{Sub, Mul}
use Rattle.logic_term.specs.declared.kinds.Label2.{Label2}
use Rattle.logic_term.specs.Ty.{math_int}
use Rattle.logic_term.specs.Value.{Value, Number, integer_of}
use Rattle.logic_term.specs.Term.{denied, at_most, implied, Term, lit, apply, no_terms, and_term, calculate, is_at_most}
use Rattle.logic_term.specs.Meaning.{Sure, Structure, Env, Means, Holds}
use Rattle.logic_term.proofs.Alike.{alike_same, yes_alike}
use Rattle.logic_term.proofs.CanonicalLaw.{same_up_to_names_means}
use Rattle.logic_term.proofs.Truth.{holds_at_most, holds_not, holds_implies}
use Rattle.logic_term.proofs.Unique.{has_value}
use Rattle.proof_kernel.specs.Sequent.{Sequent, InSorts, AllHold, IsTrueAt, AllTrueAt}
use Rattle.proof_kernel.specs.declared.step.PairRule.{PairRule}
use Rattle.proof_kernel.specs.declared.step.PairRule.TheVariants.{ModusPonens, Contradiction, Product}
use Rattle.proof_kernel.specs.PairRules.{concluded, is_denied_by, distance, product, adding, on_two, pair_rule}
use Rattle.proof_kernel.specs.Rules.{same_up_to_names, hypothesis}
use Rattle.proof_kernel.proofs.FormsFound.{same_some, picked, both_found}
use Rattle.proof_kernel.proofs.GoalSound.{same_names, these_true, is_closed}
use Rattle.proof_kernel.proofs.LinearSound.{exact, true_at_most, at_most_is, times_not_negative}
use Rattle.proof_kernel.proofs.Sound.{held, hyps_more}

rises : (x y : ℤ) → x ≤ℤ y → pos 0 ≤ℤ (y -ℤ x)
rises x y l = omega (arith, ints)

module _ (S : Structure) (ρ : Env) where
  same_holds : (t u : Term) → same_up_to_names t u ≡ true → Holds S u ρ → Holds S t ρ
  same_holds t u e h = (yes_alike _ _ (same_up_to_names_means S t u ρ (same_names t u e))).1 h

  concluded_holds : (t k u : Term) → concluded t k ≡ Some u → Holds S t ρ → Holds S k ρ → Holds S u ρ
  concluded_holds (apply implied (and_term a (and_term b no_terms))) k u e h g =
      let p = picked (same_up_to_names a k) b u e in
      subst (λ (v : Term). Holds S v ρ) p.1 ((holds_implies S a b ρ).0 h (same_holds a k p.0 g))
  concluded_holds t k u e h g = absurd (cc)

  denied_fails : (t k : Term) → is_denied_by t k ≡ true → Holds S t ρ → Holds S k ρ → ⊥
  denied_fails t (apply denied (and_term a no_terms)) e h g = (holds_not S a ρ).0 g (same_holds a t e h)
  denied_fails t k e h g = absurd (cc)

  -- ---- products

  -- the term has a value, whose integer is not negative
  abbrev IsNotNegative : Term → Type 0
  IsNotNegative t = (v : Value) × Means S t ρ v × (pos 0 ≤ℤ integer_of v)

  distance_is : (t d : Term) → distance t ≡ Some d → Holds S t ρ → Sure (IsNotNegative d)
  distance_is (apply at_most (and_term a (and_term b no_terms))) d e h n =
      has_value S a ρ (λ (x : (v : Value) × Means S a ρ v). has_value S b ρ (λ (y : (v : Value) × Means S b ρ v).
      let l : integer_of x.0 ≤ℤ integer_of y.0 = at_most_is S ρ a b (integer_of x.0) (integer_of y.0) (x.0, x.1, refl) (y.0, y.1, refl) h in
      let is : IsNotNegative (calculate Sub b a) = (Number (integer_of y.0 -ℤ integer_of x.0), (y.0, x.0, y.1, x.1, refl), rises (integer_of x.0) (integer_of y.0) l) in
      n (subst IsNotNegative (same_some (calculate Sub b a) d e) is)))
  distance_is t d e h n = absurd (cc)

  times_is : (x y : Term) → IsNotNegative x → IsNotNegative y → Holds S (is_at_most (lit (pos 0) math_int) (calculate Mul x y)) ρ
  times_is x y p r =
      let z : ℤ = integer_of p.0 *ℤ integer_of r.0 in
      (holds_at_most S (lit (pos 0) math_int) (calculate Mul x y) ρ (Number (pos 0)) (Number z) (alike_same _) (exact S ρ (calculate Mul x y) z (Number z, (p.0, r.0, p.1, r.1, refl), refl))).1
      (true_at_most (pos 0) z (times_not_negative S ρ (integer_of p.0) (integer_of r.0) p.2 r.2))

  product_holds : (o p : Option Term) (t : Term) → product o p ≡ Some t → ((x : Term) → o ≡ Some x → Sure (IsNotNegative x)) → ((y : Term) → p ≡ Some y → Sure (IsNotNegative y)) → Holds S t ρ
  product_holds None p t e f g = absurd (cc)
  product_holds (Some x) None t e f g = absurd (cc)
  product_holds (Some x) (Some y) t e f g =
      λ n. f x refl (λ a. g y refl (λ b. subst (λ (u : Term). Holds S u ρ) (same_some _ t e) (times_is x y a b) n))

module _ (S : Structure) (s : ℕ) (q : Sequent) (ps : List Sequent) (h : AllTrueAt S ps) where
  pub adding_sound : (o : Option Term) (ρ : Env) → adding s q o ≡ Some ps → InSorts S q.vars ρ → AllHold S q.hyps ρ → ((t : Term) → o ≡ Some t → Holds S t ρ) → Holds S q.goal ρ
  adding_sound None ρ e z k f = absurd (cc)
  adding_sound (Some t) ρ e z k f = (these_true S _ ps e h).0 ρ z (hyps_more S q.hyps _ ρ k (f t refl, tt))

  two_sound : (r : PairRule) (t u : Term) (ρ : Env) → on_two r s q t u ≡ Some ps → InSorts S q.vars ρ → AllHold S q.hyps ρ → Holds S t ρ → Holds S u ρ → Holds S q.goal ρ
  two_sound ModusPonens t u ρ e z k f g = adding_sound (concluded t u) ρ e z k (λ v c. concluded_holds S ρ t u v c f g)
  two_sound Contradiction t u ρ e z k f g = absurd (denied_fails S ρ t u (is_closed (is_denied_by t u) ps e) f g)
  two_sound Product t u ρ e z k f g =
      adding_sound (product (distance t) (distance u)) ρ e z k (λ v c. product_holds S ρ (distance t) (distance u) v c (λ x d. distance_is S ρ t x d f) (λ y d. distance_is S ρ u y d g))

  pub pair_sound : (r : PairRule) (l m : Label2) → pair_rule r s l m q ≡ Some ps → IsTrueAt S q
  pair_sound r l m e ρ z k =
      let f = both_found r s q (hypothesis l q.hyps) (hypothesis m q.hyps) ps e in
      two_sound r f.0 f.1 ρ f.4 z k (held S l q.hyps f.0 ρ f.2 k) (held S m q.hyps f.1 ρ f.3 k)
