-- The rows of references, one more at a time.
use Rattle.std.proofs.Common.{◌≡◌, ℕ, zero, suc, ◌+◌, ◌<◌, List, [], ◌∷◌, ◌++◌, length, take, map, get_or, Some, None, refl, sym, ◌∙◌, ap, ap₂, subst, arith, add-one}
use Rattle.std.proofs.lemmas.List.{map-append}
use Rattle.proof_kernel.specs.Sequent.{Sequent}
use Rattle.proof_kernel.specs.declared.step.Multiple.{Multiple}
use Rattle.proof_kernel.specs.declared.linear.Sides.{Sides}
use Rattle.proof_kernel.specs.LinearRows.{difference}
use Rattle.proof_kernel.specs.Linear.{Difference, referred, AreRows}

-- where one reference gives no row, they do not all give one
pub no_rows : (q : Sequent) (ms : List Multiple) (i : ℕ) (m : Multiple) (ds : List Difference) → i < length ms → None ≡ referred q (get_or ms i m).of → AreRows q ms ds → ⊥
no_rows q [] i m ds l n r = absurd (omega arith)
no_rows q (a ∷ ms) i m [] l n r = r
no_rows q (a ∷ ms) zero m (d ∷ ds) l n r = let e = n ∙ r.0 in cc
no_rows q (a ∷ ms) (suc i) m (d ∷ ds) l n r = no_rows q ms i m ds (omega arith) n r.1

step : (q : Sequent) (ms : List Multiple) (i : ℕ) (m : Multiple) (ds : List Difference) (d : Difference) → i < length ms → Some d ≡ referred q (get_or ms i m).of → AreRows q (take i ms) ds → AreRows q (take (suc i) ms) (ds ++ d ∷ [])
step q [] i m ds d l s r = absurd (omega arith)
step q (a ∷ ms) zero m [] d l s r = (sym s, tt)
step q (a ∷ ms) zero m (b ∷ ds) d l s r = absurd r
step q (a ∷ ms) (suc i) m [] d l s r = absurd r
step q (a ∷ ms) (suc i) m (b ∷ ds) d l s r = (r.0, step q ms i m ds d (omega arith) s r.1)

-- one more reference gives one more row
pub rows_more : (q : Sequent) (ms : List Multiple) (i : ℕ) (m : Multiple) (ss more : List Sides) (s : Sides) → i < length ms → Some (difference s) ≡ referred q (get_or ms i m).of → AreRows q (take i ms) (map difference ss) → more ≡ ss ++ s ∷ [] → AreRows q (take (i + 1) ms) (map difference more)
rows_more q ms i m ss more s l e r p =
    let is_more : map difference more ≡ map difference ss ++ difference s ∷ [] = ap (map difference) p ∙ map-append difference ss (s ∷ []) in
    rw add-one (subst (AreRows q (take (suc i) ms)) (sym is_more) (step q ms i m (map difference ss) (difference s) l e r))

-- the rows of the references are as many as these
pub rows_length : (q : Sequent) (ms : List Multiple) (ds : List Difference) → AreRows q ms ds → length ds ≡ length ms
rows_length q [] [] r = refl
rows_length q [] (d ∷ ds) r = absurd r
rows_length q (m ∷ ms) [] r = absurd r
rows_length q (m ∷ ms) (d ∷ ds) r = ap suc (rows_length q ms ds r.1)

some_same : (x y : Difference) → Some x ≡ Some y → x ≡ y
some_same x y e = cc

-- and no others
pub rows_unique : (q : Sequent) (ms : List Multiple) (ds es : List Difference) → AreRows q ms ds → AreRows q ms es → ds ≡ es
rows_unique q [] [] [] r p = refl
rows_unique q [] (d ∷ ds) es r p = absurd r
rows_unique q [] ds (e ∷ es) r p = absurd p
rows_unique q (m ∷ ms) [] es r p = absurd r
rows_unique q (m ∷ ms) ds [] r p = absurd p
rows_unique q (m ∷ ms) (d ∷ ds) (e ∷ es) r p =
    ap₂ (λ x xs. x ∷ xs) (some_same d e (sym r.0 ∙ p.0)) (rows_unique q ms ds es r.1 p.1)
