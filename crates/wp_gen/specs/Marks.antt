-- Marks of locals: for each, whether something is true of it.
use Rattle.std.specs.Prelude.{◌≡◌, ℕ, ◌<◌, ◌||◌, Bool, false, cond, List, length, slice_index_or}
use Rattle.mir_ir.specs.Acts.{Act}
use Rattle.prophecy_logic.specs.declared.touch.Touch.{Touch}
use Rattle.prophecy_logic.specs.declared.touch.Touch.TheVariants.{Untouched, Whole}
use Rattle.prophecy_logic.specs.Loop.{one_touches}

-- n locals are marked where f is true of them
pub record AreMarks (n : ℕ) (f : ℕ → Bool) (marks : List Bool) : Type 0 where
  pub as_many : length marks ≡ n
  pub is : (x : ℕ) → x < n → slice_index_or marks x false ≡ f x

-- the locals of which f is true are marked too
pub record AddsMarks (f : ℕ → Bool) (old new : List Bool) : Type 0 where
  pub as_many : length new ≡ length old
  pub is : (x : ℕ) → x < length old → slice_index_or new x false ≡ (slice_index_or old x false || f x)

-- the locals that the acts touch are marked too
abbrev pub AddsTouched : List Act → List Bool → List Bool → Type 0
AddsTouched acts old new = AddsMarks (λ x. one_touches x acts) old new

-- what is done to a local where these locals are gone and those are written
abbrev pub touch_by : List Bool → List Bool → ℕ → Touch
touch_by gone written x = cond (slice_index_or gone x false) Untouched (cond (slice_index_or written x false) Whole Untouched)
