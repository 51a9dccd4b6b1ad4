-- What the check of a certificate knows when it has looked at some of the columns.
use Rattle.std.specs.Prelude.{◌≡◌, ℕ, ◌≤◌, ◌<◌, Bool, List, length, ℤ, pos, ◌<ℤ◌, All, Option, Some, None, Result, Ok, Err, ◌&&◌, min, MatchOption, MatchResult, MatchBool}
use Rattle.lin_arith.specs.Certificate.{factor_of, products, combination, IsNarrowAt}
use Rattle.lin_arith.specs.declared.certificate.Row.{Row}
use Rattle.lin_arith.specs.declared.certificate.Column.{Column}
use Rattle.lin_arith.specs.declared.certificate.Column.TheVariants.{Factors, Constants}

-- no row has the atom
abbrev pub IsAbsent : List Row → ℕ → Type 0
IsAbsent rows a = All (λ row. factor_of a row.parts ≡ pos 0) rows

-- the least of the atoms from a number on that can have a factor other than 0
abbrev pub IsNextAtom : List Row → ℕ → Option ℕ → Type 0
IsNextAtom rows from next =
    MatchOption next ((a : ℕ) → from ≤ a → IsAbsent rows a)
    (λ n. (from ≤ n) × ((a : ℕ) → from ≤ a → a < n → IsAbsent rows a))

-- the rows before this one are narrow in the column
abbrev pub IsNarrowBelow : Column → List Row → List ℤ → ℕ → Type 0
IsNarrowBelow column rows mult r = (k : ℕ) → k < r → IsNarrowAt (products column rows mult) k

-- the column's sum, or its first wide row
abbrev pub IsColumnSum : Column → List Row → List ℤ → Result ℤ ℕ → Type 0
IsColumnSum column rows mult sum =
    MatchResult sum
    (λ total. IsNarrowBelow column rows mult (length rows) × (total ≡ combination column rows mult))
    (λ r. (r < length rows) × IsNarrowBelow column rows mult r × ¬ (IsNarrowAt (products column rows mult) r))

-- a sum as a false constant row has it in the column
abbrev pub IsFalseSum : Column → ℤ → Type 0
IsFalseSum (Factors a) sum = sum ≡ pos 0
IsFalseSum Constants sum = sum <ℤ pos 0

-- of the columns looked at: whether each is as in a false constant row, or the first row at which one is wide
abbrev pub IsOutcome : (Column → Type 0) → List Row → List ℤ → Result Bool ℕ → Type 0
IsOutcome Seen rows mult outcome =
    MatchResult outcome
    (λ is_false. ((column : Column) → Seen column → IsNarrowBelow column rows mult (length rows))
    × MatchBool is_false
    ((column : Column) → Seen column → IsFalseSum column (combination column rows mult))
    ((column : Column) × Seen column × ¬ (IsFalseSum column (combination column rows mult))))
    (λ r. (r < length rows)
    × ((column : Column) → Seen column → IsNarrowBelow column rows mult r)
    × ((column : Column) × Seen column × ¬ (IsNarrowAt (products column rows mult) r)))

-- the lesser of the two numbers, where both are there
abbrev pub lesser_of : Option ℕ → Option ℕ → Option ℕ
lesser_of (Some a) (Some b) = Some (min a b)
lesser_of (Some a) None = Some a
lesser_of None other = other

-- the outcome of the columns of both: the lesser wide row, or whether both are as in a false constant row
abbrev pub joined_of : Result Bool ℕ → Result Bool ℕ → Result Bool ℕ
joined_of (Ok one) (Ok other) = Ok (one && other)
joined_of (Ok one) (Err row) = Err row
joined_of (Err row) (Ok other) = Err row
joined_of (Err one) (Err other) = Err (min one other)
