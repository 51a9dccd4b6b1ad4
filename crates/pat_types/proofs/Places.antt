-- Fields that are put in their places.
use Rattle.std.proofs.Common.{◌≡◌, ◌∙◌, ℕ, zero, suc, ◌+◌, ◌-◌, ◌≤◌, ◌<◌, Bool, false, List, [], ◌∷◌, ◌++◌, length, replicate, refl, ap, arith}
use Rattle.std.proofs.lemmas.List.{append_assoc}
use Rattle.std.specs.Prelude.{slice_set}

-- a place past the end is none
pub past_the_end : {A : Type 0} (xs : List A) (i : ℕ) (x : A) → length xs ≤ i → slice_set xs i x ≡ xs
past_the_end [] i x h = refl
past_the_end (y ∷ ys) zero x h = absurd (omega arith)
past_the_end (y ∷ ys) (suc i) x h = ap (λ zs. y ∷ zs) (past_the_end ys i x (omega arith))

-- one flag more
pub one_more : (xs ys : List Bool) (n k : ℕ) → k < n → ys ≡ xs ++ false ∷ [] → ys ++ replicate (n - (k + 1)) false ≡ xs ++ replicate (n - k) false
one_more xs ys n k h p =
    let e : suc (n - (k + 1)) ≡ n - k = omega arith in
    ap (λ zs. zs ++ replicate (n - (k + 1)) false) p
    ∙ append_assoc xs (false ∷ []) (replicate (n - (k + 1)) false)
    ∙ ap (λ m. xs ++ replicate m false) e
