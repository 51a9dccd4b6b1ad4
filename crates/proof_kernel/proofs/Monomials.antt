-- Monomials are the same exactly where each atom stands in both as often.
use Rattle.std.proofs.Common.{◌≡◌, ℕ, suc, ◌==◌, ◌&&◌, Bool, true, false, cond, [], ◌∷◌, ◌⊎◌, inl, inr, refl, sym, ◌∙◌, subst, arith, true≢false}
use Rattle.std.specs.List.{list_all}
use Rattle.std.proofs.lemmas.Bool.{eqb-true, eq-eqb}
use Rattle.logic_term.specs.Term.{Term}
use Rattle.logic_term.specs.Same.{same_term}
use Rattle.logic_term.proofs.SameLaw.{same_term_equal, equal_same_term}
use Rattle.proof_kernel.specs.Polynomial.{Monomial, times, stands_in, same_monomial}

and_parts : (a b : Bool) → (a && b) ≡ true → (a ≡ true) × (b ≡ true)
and_parts true b e = (refl, e)
and_parts false b e = absurd (true≢false (sym e))

and_true : (a b : Bool) → a ≡ true → b ≡ true → (a && b) ≡ true
and_true true b e f = f
and_true false b e f = e

and_comm : (a b : Bool) → (a && b) ≡ (b && a)
and_comm true true = refl
and_comm true false = refl
and_comm false true = refl
and_comm false false = refl

pub same_comm : (m n : Monomial) → same_monomial m n ≡ same_monomial n m
same_comm m n = and_comm (stands_in m n) (stands_in n m)

-- an atom is not in the list, or it stands in both monomials as often
at_zero_or : (u : Term) (m n k : Monomial) → list_all (λ t. times t m == times t n) k ≡ true → (times u k ≡ 0) ⊎ (times u m ≡ times u n)
at_zero_or u m n [] e = inl refl
at_zero_or u m n (t ∷ k) e =
    let p = and_parts (times t m == times t n) (list_all (λ t. times t m == times t n) k) e in choose (same_term t u) refl p.0 (at_zero_or u m n k p.1)
  where
    choose : (b : Bool) → same_term t u ≡ b → (times t m == times t n) ≡ true → (times u k ≡ 0) ⊎ (times u m ≡ times u n) → (cond b (suc (times u k)) (times u k) ≡ 0) ⊎ (times u m ≡ times u n)
    choose true s here later = inr (subst (λ v. times v m ≡ times v n) (same_term_equal t u s) (eqb-true (times t m) (times t n) here))
    choose false s here later = later

pub same_times : (m n : Monomial) → same_monomial m n ≡ true → (u : Term) → times u m ≡ times u n
same_times m n e u = by_left (at_zero_or u m n m p.0)
  where
    p : (stands_in m n ≡ true) × (stands_in n m ≡ true)
    p = and_parts (stands_in m n) (stands_in n m) e

    by_right : times u m ≡ 0 → (times u n ≡ 0) ⊎ (times u n ≡ times u m) → times u m ≡ times u n
    by_right z (inl y) = z ∙ sym y
    by_right z (inr q) = sym q

    by_left : (times u m ≡ 0) ⊎ (times u m ≡ times u n) → times u m ≡ times u n
    by_left (inl z) = by_right z (at_zero_or u n m n p.1)
    by_left (inr q) = q

as_often : (m n k : Monomial) → ((u : Term) → times u m ≡ times u n) → list_all (λ t. times t m == times t n) k ≡ true
as_often m n [] h = refl
as_often m n (t ∷ k) h = and_true (times t m == times t n) (list_all (λ t. times t m == times t n) k) (eq-eqb (times t m) (times t n) (h t)) (as_often m n k h)

pub times_same : (m n : Monomial) → ((u : Term) → times u m ≡ times u n) → same_monomial m n ≡ true
times_same m n h = and_true (stands_in m n) (stands_in n m) (as_often m n m h) (as_often n m n (λ u. sym (h u)))

pub same_refl : (m : Monomial) → same_monomial m m ≡ true
same_refl m = times_same m m (λ u. refl)

pub same_sym : (m n : Monomial) → same_monomial m n ≡ true → same_monomial n m ≡ true
same_sym m n e = same_comm n m ∙ e

pub same_trans : (m n k : Monomial) → same_monomial m n ≡ true → same_monomial n k ≡ true → same_monomial m k ≡ true
same_trans m n k e f = times_same m k (λ u. same_times m n e u ∙ same_times n k f u)

bool_same : (a b : Bool) → (a ≡ true → b ≡ true) → (b ≡ true → a ≡ true) → a ≡ b
bool_same true b f g = sym (f refl)
bool_same false true f g = g refl
bool_same false false f g = refl

-- the same monomials are the same as any other
pub same_left : (m n k : Monomial) → same_monomial m n ≡ true → same_monomial k m ≡ same_monomial k n
same_left m n k e =
    bool_same (same_monomial k m) (same_monomial k n) (λ f. same_trans k m n f e) (λ f. same_trans k n m f (same_sym m n e))

no_count : (n : ℕ) → 0 ≡ suc n → ⊥
no_count n e = omega arith

stands_once : (b : Bool) (n : ℕ) → b ≡ true → 0 ≡ cond b (suc n) n → ⊥
stands_once true n s z = no_count n z
stands_once false n s z = true≢false (sym s)

-- only 1 has no atoms
pub same_one : (m : Monomial) → same_monomial [] m ≡ true → m ≡ []
same_one [] e = refl
same_one (t ∷ m) e = absurd (stands_once (same_term t t) (times t m) (equal_same_term t t refl) (same_times [] (t ∷ m) e t))
