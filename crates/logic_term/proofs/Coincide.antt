-- A term's values depend on the variables in it alone.
use Rattle.std.proofs.Common.{◌≡◌, ℕ, ◌≤◌, ◌<◌, ◌==◌, ◌&&◌, not, Bool, true, false, sym, true≢false, arith}
use Rattle.std.proofs.lemmas.Bool.Decides.{nat_tests}
use Rattle.text_core.specs.declared.name.Name.{Name}
use Rattle.logic_term.specs.Value.{Value}
use Rattle.logic_term.specs.Term.{Term, Terms, var, lit, truth, apply, bind, no_terms, and_term}
use Rattle.logic_term.specs.Meaning.{Structure, Env, with_value, Means}
use Rattle.logic_term.specs.Subst.{above, all_above}
use Rattle.logic_term.specs.Free.{free, free_in_some}
use Rattle.logic_term.proofs.Alike.{Alike}
use Rattle.logic_term.proofs.FreeLaw.{coincide_free, or_cases, same_test}

-- the environments have the same values at all names below n
abbrev pub Agree : ℕ → Env → Env → Type 0
Agree n ρ σ = (x : Name) → x.0 < n → ρ x ≡ σ x

pub with_same : (ρ : Env) (x : Name) (w : Value) → with_value ρ x w x ≡ w
with_same ρ x w = grind (arith, nat_tests)

pub with_other : (ρ : Env) (x y : Name) (w : Value) → (y.0 ≡ x.0 → ⊥) → with_value ρ x w y ≡ ρ y
with_other ρ x y w d = grind (arith, nat_tests)

-- a value at a name that is not below n
pub agree_new : (n : ℕ) (ρ : Env) (x : Name) (w : Value) → n ≤ x.0 → Agree n ρ (with_value ρ x w)
agree_new n ρ x w l y h = sym (with_other ρ x y w (λ e. absurd (omega arith)))

-- ---- free names are below the bound

right_side : (b c : Bool) → (not b && c) ≡ true → c ≡ true
right_side true c e = absurd (true≢false (sym e))
right_side false c e = e

mutual
  pub free_above : (x : Name) (t : Term) → free x t ≡ true → x.0 < above t
  free_above x (var y) e = let same : x.0 ≡ y.0 = same_test x.0 y.0 e in omega arith
  free_above x (lit z s) e = absurd (true≢false (sym e))
  free_above x (truth b) e = absurd (true≢false (sym e))
  free_above x (apply op ts) e = free_above_all x ts e
  free_above x (bind q y s t) e = let l : x.0 < above t = free_above x t (right_side (x.0 == y.0) (free x t) e) in omega arith

  free_above_all : (x : Name) (ts : Terms) → free_in_some x ts ≡ true → x.0 < all_above ts
  free_above_all x no_terms e = absurd (true≢false (sym e))
  free_above_all x (and_term t ts) e = or_cases (free x t) (free_in_some x ts) e
      (λ f. let l : x.0 < above t = free_above x t f in omega arith) (λ f. let l : x.0 < all_above ts = free_above_all x ts f in omega arith)

module _ (S : Structure) where
  pub coincide : (n : ℕ) (t : Term) (ρ σ : Env) → above t ≤ n → Agree n ρ σ → Alike (Means S t ρ) (Means S t σ)
  coincide n t ρ σ b h = coincide_free S t ρ σ (λ x e. let l : x.0 < above t = free_above x t e in h x (omega arith))
