-- The rows from above.
use Rattle.std.proofs.Common.{◌≡◌, refl, sym, ap, ◌∙◌, subst, ℕ, zero, suc, ◌+◌, ◌<◌, List, [], ◌∷◌, length, get_or, take, arith}
use Rattle.logic_term.specs.Pattern.{Pat}
use Rattle.logic_term.specs.declared.pattern.PatStep.{PatStep}
use Rattle.pat_check.specs.Known.{Known}
use Rattle.pat_check.specs.Rows.{Next, no_row, row, test, by_status, next, AllFail}
use Rattle.pat_check.specs.Status.{Status, fails, sure, asks, status}
use Rattle.pat_check.specs.declared.test.Test.{Test}

-- one more arm fails
pub all_fail_more : (i : ℕ) (ps : List Pat) (k : Known) (p : Pat) → p ≡ get_or ps i p → i < length ps → status p k ≡ fails → AllFail (take i ps) k → AllFail (take (i + 1) ps) k
all_fail_more i ps k p e l s h = subst (λ m. AllFail (take m ps) k) (let f : suc i ≡ i + 1 = omega arith in f) (more i ps e l h)
  where
    more : (i : ℕ) (ps : List Pat) → p ≡ get_or ps i p → i < length ps → AllFail (take i ps) k → AllFail (take (suc i) ps) k
    more i [] e l h = absurd (omega arith)
    more zero (q ∷ qs) e l h = (subst (λ x. status x k ≡ fails) e s, tt)
    more (suc i) (q ∷ qs) e l h = (h.0, more i qs e (omega arith) h.1)

-- no row is left where all fail
pub next_none : (n : ℕ) (ps : List Pat) (k : Known) → AllFail ps k → next n ps k ≡ no_row
next_none n [] k h = refl
next_none n (p ∷ ps) k h = ap (λ s. by_status s n p (next (suc n) ps k)) h.0 ∙ next_none (suc n) ps k h.1

-- the row behind those that fail decides
pub next_at : (n i : ℕ) (ps : List Pat) (k : Known) (p : Pat) → p ≡ get_or ps i p → i < length ps → AllFail (take i ps) k → (m : ℕ) → m ≡ n + i → (rest : Next) × (next n ps k ≡ by_status (status p k) m p rest)
next_at n i [] k p e l h m z = absurd (omega arith)
next_at n zero (q ∷ qs) k p e l h m z = (next (suc n) qs k, λ j. by_status (status (sym e j) k) (same j) (sym e j) (next (suc n) qs k))
  where
    same : n ≡ m
    same = omega (arith, z)
next_at n (suc i) (q ∷ qs) k p e l h m z =
    let g = next_at (suc n) i qs k p e (omega arith) h.1 m (omega (arith, z)) in
    (g.0, ap (λ s. by_status s n q (next (suc n) qs k)) h.0 ∙ g.1)

pub row_at : (i : ℕ) (ps : List Pat) (k : Known) (p : Pat) → p ≡ get_or ps i p → i < length ps → AllFail (take i ps) k → status p k ≡ sure → next 0 ps k ≡ row i p
row_at i ps k p e l h s = let g = next_at 0 i ps k p e l h i (omega arith) in g.1 ∙ ap (λ x. by_status x i p g.0) s

pub test_at : (i : ℕ) (ps : List Pat) (k : Known) (p : Pat) (q : List PatStep) (w : Test) → p ≡ get_or ps i p → i < length ps → AllFail (take i ps) k → status p k ≡ asks q w → next 0 ps k ≡ test q w
test_at i ps k p q w e l h s = let g = next_at 0 i ps k p e l h i (omega arith) in g.1 ∙ ap (λ x. by_status x i p g.0) s

-- read twice, the arm is the same
pub status_of : (xs : List Pat) (i : ℕ) {s : Status} (k : Known) (p q : Pat) → p ≡ get_or xs i p → q ≡ get_or xs i q → i < length xs → status p k ≡ s → status q k ≡ s
status_of xs i {s} k p q e f l h = subst (λ x. status x k ≡ s) (same xs i e f l) h
  where
    same : (xs : List Pat) (i : ℕ) → p ≡ get_or xs i p → q ≡ get_or xs i q → i < length xs → p ≡ q
    same [] i e f l = absurd (omega arith)
    same (x ∷ xs) zero e f l = e ∙ sym f
    same (x ∷ xs) (suc i) e f l = same xs i e f (omega arith)
