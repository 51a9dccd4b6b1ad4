-- Findings of the code as statuses, and what the code says of the first remaining row.
use Rattle.std.specs.Prelude.{◌≡◌, ℕ, List, ◌∷◌, take}
use Rattle.logic_term.specs.Pattern.{Pat}
use Rattle.pat_check.specs.declared.finding_kind.Finding.{Finding}
use Rattle.pat_check.specs.declared.finding_kind.Finding.TheVariants as found
use Rattle.pat_check.specs.declared.finding_kind.NextTest.{NextTest}
use Rattle.pat_check.specs.declared.finding_kind.NextTest.TheVariants as after
use Rattle.pat_check.specs.Known.{Known}
use Rattle.pat_check.specs.Rows.{no_row, row, test, next, AllFail}
use Rattle.pat_check.specs.Status.{Status, fails, sure, asks}

abbrev pub finding_of : Finding → Status
finding_of found.Fails = fails
finding_of found.Sure = sure
finding_of (found.Asks p w) = asks p w

-- of the part of this number of a value of variant n
abbrev pub at_part : ℕ → ℕ → Status → Status
at_part n i fails = fails
at_part n i sure = sure
at_part n i (asks p w) = asks (record { variant = n; field = i } ∷ p) w

-- at: the rows before this one fail
abbrev pub IsNext : List Pat → Known → NextTest → Type 0
IsNext ps k after.NoRow = next 0 ps k ≡ no_row
IsNext ps k (after.Row n p) = next 0 ps k ≡ row n p.now
IsNext ps k (after.Test at p w) = (next 0 ps k ≡ test p w) × AllFail (take at ps) k
