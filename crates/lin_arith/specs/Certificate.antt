-- Linear rows and Farkas certificates.
--
-- A row says that the sum of its parts, each a factor times an atom, and its constant is at least 0. Farkas' lemma: rows have
-- no common solution where a combination of them, with multipliers that are not negative, is a row that says that a negative
-- constant is at least 0 (Schrijver, Theory of Linear and Integer Programming, section 7.3). The multipliers are the certificate.
-- The numbers here are exact; `FitsSigned w128` says which of them a checker with 128 bits signed can hold.
use Rattle.std.specs.Prelude.{◌≡◌, ◌≢◌, ℕ, ◌+◌, ◌<◌, ◌⊎◌, List, [], ◌∷◌, length, take, map, ℤ, pos, ◌+ℤ◌, ◌*ℤ◌, ◌<ℤ◌, ◌≤ℤ◌, if◌then◌else◌, ◌==◌, FitsSigned, slice_index_or, All}
use Rattle.std.specs.Int.{w128}
use Rattle.std.specs.List.Sorted.{IsStrictlyIncreasing}
use Rattle.lin_arith.specs.declared.certificate.Part.{Part}
use Rattle.lin_arith.specs.declared.certificate.Row.{Row}
use Rattle.lin_arith.specs.declared.certificate.Column.{Column}
use Rattle.lin_arith.specs.declared.certificate.Column.TheVariants.{Factors, Constants}

-- ---- rows

-- the atoms of a row are strictly rising
abbrev pub HasRisingAtoms : Row → Type 0
HasRisingAtoms row = IsStrictlyIncreasing (map (λ part. part.atom) row.parts)

-- the factor of an atom in a sum of parts: 0 where the atom is absent
abbrev pub factor_of : ℕ → List Part → ℤ
factor_of a [] = pos 0
factor_of a (part ∷ parts) = (if part.atom == a then part.factor else pos 0) +ℤ factor_of a parts

-- what a sum of parts comes to, at these values of the atoms
abbrev pub sum_at : (ℕ → ℤ) → List Part → ℤ
sum_at value [] = pos 0
sum_at value (part ∷ parts) = part.factor *ℤ value part.atom +ℤ sum_at value parts

-- each row holds at these values of the atoms
abbrev pub AllRowsHold : (ℕ → ℤ) → List Row → Type 0
AllRowsHold value rows = All (λ row. pos 0 ≤ℤ (sum_at value row.parts +ℤ row.constant)) rows

-- ---- the combination, column by column

-- what a row has in a column: an atom's factor, or the constant
abbrev pub entry_of : Column → Row → ℤ
entry_of (Factors a) row = factor_of a row.parts
entry_of Constants row = row.constant

-- each row's entry in a column times the row's multiplier
abbrev pub products : Column → List Row → List ℤ → List ℤ
products column [] mult = []
products column (row ∷ rows) [] = []
products column (row ∷ rows) (m ∷ mult) = (entry_of column row *ℤ m) ∷ products column rows mult

abbrev pub int_sum : List ℤ → ℤ
int_sum [] = pos 0
int_sum (z ∷ zs) = z +ℤ int_sum zs

-- what the combination of the rows has in a column
abbrev pub combination : Column → List Row → List ℤ → ℤ
combination column rows mult = int_sum (products column rows mult)

-- the multipliers show by Farkas' lemma that the rows have no common solution
pub record IsCertificate (rows : List Row) (mult : List ℤ) : Type 0 where
  pub none_negative : All (λ m. pos 0 ≤ℤ m) mult
  pub factors_vanish : (a : ℕ) → combination (Factors a) rows mult ≡ pos 0
  pub constant_negative : combination Constants rows mult <ℤ pos 0

-- ---- which rows a checker with 128 bits can add

-- of these products the one at a place, and the sum of those up to it, are within 128 bits
abbrev pub IsNarrowAt : List ℤ → ℕ → Type 0
IsNarrowAt zs k = FitsSigned w128 (slice_index_or zs k (pos 0)) × FitsSigned w128 (int_sum (take (k + 1) zs))

-- in each column the row's product and the running sum are within 128 bits
abbrev pub IsNarrowRow : List Row → List ℤ → ℕ → Type 0
IsNarrowRow rows mult k = (column : Column) → IsNarrowAt (products column rows mult) k

abbrev pub IsNarrow : List Row → List ℤ → Type 0
IsNarrow rows mult = (k : ℕ) → k < length rows → IsNarrowRow rows mult k

-- the first row at which the product or the running sum of some column passes 128 bits
pub record IsFirstWide (rows : List Row) (mult : List ℤ) (r : ℕ) : Type 0 where
  pub within : r < length rows
  pub wide : (column : Column) × ¬ (IsNarrowAt (products column rows mult) r)
  pub narrow_before : (k : ℕ) → k < r → IsNarrowRow rows mult k

-- ---- which multipliers are no certificate

-- the first row whose multiplier is negative
pub record IsFirstNegative (mult : List ℤ) (r : ℕ) : Type 0 where
  pub within : r < length mult
  pub negative : slice_index_or mult r (pos 0) <ℤ pos 0
  pub none_before : (k : ℕ) → k < r → pos 0 ≤ℤ slice_index_or mult k (pos 0)

-- the combination is no false constant row: some factor is left, or the constant is not negative
abbrev pub IsNoFalseRow : List Row → List ℤ → Type 0
IsNoFalseRow rows mult =
    ((a : ℕ) × (combination (Factors a) rows mult ≢ pos 0)) ⊎ (pos 0 ≤ℤ combination Constants rows mult)

-- no multiplier is negative, and yet the combination is no false constant row
pub record CombinesToNoFalseRow (rows : List Row) (mult : List ℤ) : Type 0 where
  pub none_negative : All (λ m. pos 0 ≤ℤ m) mult
  pub no_false_row : IsNoFalseRow rows mult

-- the row at which the check fails: the first with a negative multiplier, or the number of rows where the whole combination fails
abbrev pub FailsAt : List Row → List ℤ → ℕ → Type 0
FailsAt rows mult r = IsFirstNegative mult r ⊎ ((r ≡ length rows) × CombinesToNoFalseRow rows mult)
