-- A term's values depend on its free variables alone.
use Rattle.std.proofs.Common.{◌≡◌, ℕ, zero, suc, ◌==◌, ◌||◌, ◌&&◌, not, Bool, true, false, cond, refl, sym, ◌∙◌, ap, true≢false, arith}
use Rattle.std.proofs.lemmas.Bool.Decides.{nat_tests}
use Rattle.text_core.specs.declared.name.Name.{Name}
use Rattle.logic_term.specs.Value.{Value}
use Rattle.logic_term.specs.Term.{Term, Terms, var, lit, truth, apply, bind, no_terms, and_term}
use Rattle.logic_term.specs.Meaning.{Calls, Structure, Env, with_value, MeansBy, ArgumentBy, calls, Means}
use Rattle.logic_term.specs.Free.{free, free_in_some}
use Rattle.logic_term.proofs.Alike.{sure_map, Alike, alike_same, applied_alike, quantified_alike}

-- the environments have the same values at the free names of the term
abbrev pub AgreeOn : (Name → Bool) → Env → Env → Type 0
AgreeOn f ρ σ = (x : Name) → f x ≡ true → ρ x ≡ σ x

pub or_left : (a b : Bool) → a ≡ true → (a || b) ≡ true
or_left a b e = grind arith

pub or_right : (a b : Bool) → b ≡ true → (a || b) ≡ true
or_right a b e = grind arith

pub or_cases : {P : Type 0} (a b : Bool) → (a || b) ≡ true → (a ≡ true → P) → (b ≡ true → P) → P
or_cases true b e f g = f refl
or_cases false b e f g = g e

under : (b c : Bool) (w u v : Value) → ((not b && c) ≡ true → u ≡ v) → c ≡ true → cond b w u ≡ cond b w v
under true c w u v h e = refl
under false c w u v h e = h e

pub same_test : (m n : ℕ) → (m == n) ≡ true → m ≡ n
same_test m n e = grind (arith, nat_tests)

pub same_name : (x y : Name) → x.0 ≡ y.0 → x ≡ y
same_name x y e = let f : ℕ → Name = λ n. record { 0 = n } in ap f e

apart_at : (b : Bool) (w u : Value) → (b ≡ true → ⊥) → u ≡ cond b w u
apart_at true w u d = absurd (d refl)
apart_at false w u d = refl

-- whatever calls mean
module _ (C : Calls) (S : Structure) where
  mutual
    pub coincide_free_by : (t : Term) (ρ σ : Env) → AgreeOn (λ x. free x t) ρ σ → Alike (MeansBy C S t ρ) (MeansBy C S t σ)
    coincide_free_by (var x) ρ σ h v = let e : ρ x ≡ σ x = h x (grind (arith, nat_tests)) in (sure_map (v ≡ ρ x) (v ≡ σ x) (λ p. p ∙ e), sure_map (v ≡ σ x) (v ≡ ρ x) (λ p. p ∙ sym e))
    coincide_free_by (lit z s) ρ σ h v = ((λ p. p), (λ p. p))
    coincide_free_by (truth b) ρ σ h v = ((λ p. p), (λ p. p))
    coincide_free_by (apply op ts) ρ σ h v = applied_alike C S.types op _ _ _ (λ k. coincide_all_free_by ts ρ σ h k) v
    coincide_free_by (bind q x s t) ρ σ h v = quantified_alike q _ _ _ (λ w. coincide_free_by t (with_value ρ x w) (with_value σ x w) (λ y e. under (y.0 == x.0) (free y t) w (ρ y) (σ y) (h y) e)) v

    pub coincide_all_free_by : (ts : Terms) (ρ σ : Env) → AgreeOn (λ x. free_in_some x ts) ρ σ → (k : ℕ) → Alike (ArgumentBy C S ts ρ k) (ArgumentBy C S ts σ k)
    coincide_all_free_by no_terms ρ σ h k = alike_same _
    coincide_all_free_by (and_term t ts) ρ σ h zero = coincide_free_by t ρ σ (λ x e. h x (or_left (free x t) (free_in_some x ts) e))
    coincide_all_free_by (and_term t ts) ρ σ h (suc k) = coincide_all_free_by ts ρ σ (λ x e. h x (or_right (free x t) (free_in_some x ts) e)) k

module _ (S : Structure) where
  pub coincide_free : (t : Term) (ρ σ : Env) → AgreeOn (λ x. free x t) ρ σ → Alike (Means S t ρ) (Means S t σ)
  coincide_free t ρ σ h = coincide_free_by (calls S.theory) S t ρ σ h

  pub set_apart : (x : Name) (t : Term) (ρ : Env) (w : Value) → free x t ≡ false → AgreeOn (λ y. free y t) ρ (with_value ρ x w)
  set_apart x t ρ w f y e = apart_at (y.0 == x.0) w (ρ y) (λ b. true≢false (sym e ∙ ap (λ z. free z t) (same_name y x (same_test y.0 x.0 b)) ∙ f))

  -- a value at a name that is not free
  pub unused_means : (x : Name) (t : Term) (ρ : Env) (w : Value) → free x t ≡ false → Alike (Means S t ρ) (Means S t (with_value ρ x w))
  unused_means x t ρ w f = coincide_free t ρ (with_value ρ x w) (set_apart x t ρ w f)
