-- Counts of faults, which are `u64` and stay at their last value.
use Rattle.std.specs.Prelude.{◌≡◌, ◌≢◌, ℕ, ◌+◌, ◌-◌, ◌^◌, ◌≤◌, List, min}

-- the count one more, or its last value
abbrev pub one_more : ℕ → ℕ
one_more count = min (count + 1) (2 ^ 64 - 1)

-- no name's count falls
abbrev pub NoneFalls : (List ℕ → ℕ) → (List ℕ → ℕ) → Type 0
NoneFalls before now = (name : List ℕ) → before name ≤ now name

-- the name's count is one more, and every other name's what it was
abbrev pub RaisesOnly : List ℕ → (List ℕ → ℕ) → (List ℕ → ℕ) → Type 0
RaisesOnly name before now = (now name ≡ before name + 1) × ((other : List ℕ) → other ≢ name → now other ≡ before other)
