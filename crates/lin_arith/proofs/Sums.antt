-- Sums of integers, the factors of a row's atoms, and the columns of a combination.
use Rattle.std.proofs.Common.{◌≡◌, ◌≢◌, ℕ, zero, suc, ◌+◌, ◌<◌, ◌≤◌, List, [], ◌∷◌, length, take, map, get_or, ℤ, pos, ◌+ℤ◌, ◌*ℤ◌, All, AllPairs, eq-eqb, ne_eqb, FitsSigned, lit<, inl, inr, refl, sym, ◌∙◌, ap, subst, arith, add-one}
use Rattle.std.specs.List.{AllWithin}
use Rattle.std.specs.Int.{w128}
use Rattle.std.proofs.lemmas.List.{get_or-map, get_or_default, length-map}
use Rattle.std.proofs.lemmas.Bool.{cases_lt}
use Rattle.std.proofs.lemmas.List.Kept.{AllPairs-from_increasing}
use Rattle.std.proofs.Math.IntN.{zero-*ℤ, +ℤ_assoc, +ℤ_idl, +ℤ_idr}
use Rattle.lin_arith.specs.declared.certificate.Part.{Part}
use Rattle.lin_arith.specs.declared.certificate.Row.{Row}
use Rattle.lin_arith.specs.declared.certificate.Column.{Column}
use Rattle.lin_arith.specs.Columns.{IsAbsent, IsNarrowBelow}
use Rattle.lin_arith.specs.declared.certificate.Column.TheVariants.{Factors}
use Rattle.lin_arith.specs.Certificate.{int_sum, factor_of, entry_of, products, combination, HasRisingAtoms}

pub int_sum-take_suc : (zs : List ℤ) (k : ℕ) → int_sum (take (suc k) zs) ≡ int_sum (take k zs) +ℤ get_or zs k (pos 0)
int_sum-take_suc [] zero = refl
int_sum-take_suc [] (suc k) = refl
int_sum-take_suc (z ∷ zs) zero = +ℤ_idr z ∙ sym (+ℤ_idl z)
int_sum-take_suc (z ∷ zs) (suc k) =
    ap (λ s. z +ℤ s) (int_sum-take_suc zs k) ∙ sym (+ℤ_assoc z (int_sum (take k zs)) (get_or zs k (pos 0)))

pub int_sum-take_more : (zs : List ℤ) (k : ℕ) → int_sum (take (k + 1) zs) ≡ int_sum (take k zs) +ℤ get_or zs k (pos 0)
int_sum-take_more zs k = rw add-one (int_sum-take_suc zs k)

pub length-products : (column : Column) (rows : List Row) (mult : List ℤ) → length rows ≡ length mult → length (products column rows mult) ≡ length rows
length-products column [] mult e = refl
length-products column (row ∷ rows) [] e = absurd (omega arith)
length-products column (row ∷ rows) (m ∷ mult) e = ap suc (length-products column rows mult (omega arith))

pub get_or-products : (column : Column) (rows : List Row) (mult : List ℤ) (k : ℕ) (d : Row) → length rows ≡ length mult → k < length rows → get_or (products column rows mult) k (pos 0) ≡ entry_of column (get_or rows k d) *ℤ get_or mult k (pos 0)
get_or-products column [] mult k d e h = absurd (omega arith)
get_or-products column (row ∷ rows) [] k d e h = absurd (omega arith)
get_or-products column (row ∷ rows) (m ∷ mult) zero d e h = refl
get_or-products column (row ∷ rows) (m ∷ mult) (suc k) d e h = get_or-products column rows mult k d (omega arith) (omega arith)

-- the same for an entry and a multiplier that a loop reads
pub products_read : (column : Column) (rows : List Row) (mult : List ℤ) (k : ℕ) (row : Row) (e m : ℤ) → length rows ≡ length mult → k < length rows → row ≡ get_or rows k row → e ≡ entry_of column row → m ≡ get_or mult k (pos 0) → get_or (products column rows mult) k (pos 0) ≡ e *ℤ m
products_read column rows mult k row e m same within is_row is_e is_m =
    get_or-products column rows mult k row same within
    ∙ ap (λ (r : Row). entry_of column r *ℤ get_or mult k (pos 0)) (sym is_row)
    ∙ ap (λ (z : ℤ). z *ℤ get_or mult k (pos 0)) (sym is_e)
    ∙ ap (λ (z : ℤ). e *ℤ z) (sym is_m)

-- ---- the factor of an atom

-- the atoms of a row, each below each later one
abbrev pub IsRising : List Part → Type 0
IsRising parts = AllPairs (λ x y. x.atom < y.atom) parts

pub rising : (row : Row) → HasRisingAtoms row → IsRising row.parts
rising row h i j d below within =
    let atoms = map (λ part. part.atom) row.parts in
    let fits : j < length atoms = rw length-map within in
    let p : get_or atoms i 0 < get_or atoms j 0 = AllPairs-from_increasing atoms h i j 0 below fits in
    let at_i : get_or atoms i 0 ≡ (get_or row.parts i d).atom = get_or-map (λ part. part.atom) row.parts i d 0 (omega arith) in
    let at_j : get_or atoms j 0 ≡ (get_or row.parts j d).atom = get_or-map (λ part. part.atom) row.parts j d 0 within in
    omega arith

pub factor_of-other : (a : ℕ) (part : Part) (parts : List Part) → part.atom ≢ a → factor_of a (part ∷ parts) ≡ factor_of a parts
factor_of-other a part parts h = rw (ne_eqb part.atom a h) (+ℤ_idl (factor_of a parts))

pub factor_of-same : (a : ℕ) (part : Part) (parts : List Part) → part.atom ≡ a → factor_of a (part ∷ parts) ≡ part.factor +ℤ factor_of a parts
factor_of-same a part parts h = rw (eq-eqb part.atom a h) refl

pub factor_of-absent : (a : ℕ) (parts : List Part) → All (λ part. part.atom ≢ a) parts → factor_of a parts ≡ pos 0
factor_of-absent a [] h = refl
factor_of-absent a (part ∷ parts) h =
    factor_of-other a part parts (h 0 part (omega arith)) ∙ factor_of-absent a parts (λ k d l. h (suc k) d (omega arith))

-- the same for a loop that passed each part
pub factor_of-absent_below : (a : ℕ) (parts : List Part) (n : ℕ) → length parts ≤ n → AllWithin (λ part. part.atom ≢ a) parts 0 n → factor_of a parts ≡ pos 0
factor_of-absent_below a parts n past h = factor_of-absent a parts (λ k d l. h k d (omega arith) (omega arith))

pub factor_of-found : (a : ℕ) (parts : List Part) (k : ℕ) (d : Part) → IsRising parts → k < length parts → (get_or parts k d).atom ≡ a → factor_of a parts ≡ (get_or parts k d).factor
factor_of-found a [] k d up h e = absurd (omega arith)
factor_of-found a (part ∷ parts) zero d up h e =
    factor_of-same a part parts e
    ∙ ap (λ z. part.factor +ℤ z) (factor_of-absent a parts (λ j d' l q. let below : part.atom < (get_or parts j d').atom = up 0 (suc j) d' (omega arith) (omega arith) in omega arith))
    ∙ +ℤ_idr part.factor
factor_of-found a (part ∷ parts) (suc k) d up h e =
    let below : part.atom < (get_or parts k d).atom = up 0 (suc k) d (omega arith) h in
    factor_of-other a part parts (λ q. omega arith)
    ∙ factor_of-found a parts k d (λ i j d' l m. up (suc i) (suc j) d' (omega arith) (omega arith)) (omega arith) e

-- no atom lies from a number up to the first atom that is not below it
pub factor_of-between : (from : ℕ) (parts : List Part) (k : ℕ) (d : Part) → IsRising parts → k < length parts → AllWithin (λ part. part.atom < from) parts 0 k → (a : ℕ) → from ≤ a → a < (get_or parts k d).atom → factor_of a parts ≡ pos 0
factor_of-between from parts k d up h below a l m = factor_of-absent a parts absent
  where
    absent : All (λ part. part.atom ≢ a) parts
    absent j e within same =
        let at_k : (get_or parts k d).atom ≡ (get_or parts k e).atom = ap (λ part. part.atom) (get_or_default parts k d e h) in
        elim (cases_lt j k) [
          | inl before ↦ let under : (get_or parts j e).atom < from = below j e (omega arith) before in omega arith
          | inr from_k ↦
              elim (cases_lt k j) [
                | inl after ↦ let above : (get_or parts k e).atom < (get_or parts j e).atom = up k j e after within in omega arith
                | inr to_k ↦ let here : (get_or parts j e).atom ≡ (get_or parts k e).atom = ap (λ i. (get_or parts i e).atom) (omega arith) in omega arith
              ]
        ]

-- ---- a column of zeros

pub int_sum-zero : (zs : List ℤ) → ((k : ℕ) → get_or zs k (pos 0) ≡ pos 0) → int_sum zs ≡ pos 0
int_sum-zero [] h = refl
int_sum-zero (z ∷ zs) h = ap (λ t. t +ℤ int_sum zs) (h 0) ∙ +ℤ_idl (int_sum zs) ∙ int_sum-zero zs (λ k. h (suc k))

pub int_sum-take_zero : (zs : List ℤ) (n : ℕ) → ((k : ℕ) → get_or zs k (pos 0) ≡ pos 0) → int_sum (take n zs) ≡ pos 0
int_sum-take_zero zs zero h = refl
int_sum-take_zero [] (suc n) h = refl
int_sum-take_zero (z ∷ zs) (suc n) h = ap (λ t. t +ℤ int_sum (take n zs)) (h 0) ∙ +ℤ_idl (int_sum (take n zs)) ∙ int_sum-take_zero zs n (λ k. h (suc k))

pub products-absent : (a : ℕ) (rows : List Row) (mult : List ℤ) → IsAbsent rows a → (k : ℕ) → get_or (products (Factors a) rows mult) k (pos 0) ≡ pos 0
products-absent a [] mult h k = refl
products-absent a (row ∷ rows) [] h k = refl
products-absent a (row ∷ rows) (m ∷ mult) h zero = ap (λ t. t *ℤ m) (h 0 row (omega arith)) ∙ zero-*ℤ m
products-absent a (row ∷ rows) (m ∷ mult) h (suc k) = products-absent a rows mult (λ j d l. h (suc j) d (omega arith)) k

pub combination-absent : (a : ℕ) (rows : List Row) (mult : List ℤ) → IsAbsent rows a → combination (Factors a) rows mult ≡ pos 0
combination-absent a rows mult h = int_sum-zero (products (Factors a) rows mult) (products-absent a rows mult h)

fits_zero : FitsSigned w128 (pos 0)
fits_zero = record { sfits = lit< tt }

pub narrow_absent : (a : ℕ) (rows : List Row) (mult : List ℤ) → IsAbsent rows a → (n : ℕ) → IsNarrowBelow (Factors a) rows mult n
narrow_absent a rows mult h n k l =
    let zeros = products-absent a rows mult h in
    (subst (FitsSigned w128) (sym (zeros k)) fits_zero, subst (FitsSigned w128) (sym (int_sum-take_zero (products (Factors a) rows mult) (k + 1) zeros)) fits_zero)
