-- The rows of a match are its arms from above. A row remains where its pattern may still match.
use Rattle.std.specs.Prelude.{◌≡◌, ℕ, suc, List, [], ◌∷◌}
use Rattle.logic_term.specs.declared.pattern.PatStep.{PatStep}
use Rattle.logic_term.specs.Pattern.{Pat}
use Rattle.pat_check.specs.declared.test.Test.{Test}
use Rattle.pat_check.specs.Known.{Known}
use Rattle.pat_check.specs.Status.{Status, fails, sure, asks, status}

pub data Next : Type 0 where
  -- no row is left
  no_row : Next
  -- the row is reached
  row : ℕ → Pat → Next
  test : List PatStep → Test → Next

abbrev pub by_status : Status → ℕ → Pat → Next → Next
by_status fails n p rest = rest
by_status sure n p rest = row n p
by_status (asks q w) n p rest = test q w

-- the first remaining row, and what it tests first; n: the number of the first of these rows
abbrev pub next : ℕ → List Pat → Known → Next
next n [] k = no_row
next n (p ∷ ps) k = by_status (status p k) n p (next (suc n) ps k)

-- no row of these remains
abbrev pub AllFail : List Pat → Known → Type 0
AllFail [] k = Unit {0}
AllFail (p ∷ ps) k = (status p k ≡ fails) × AllFail ps k
