-- Parts of a text, and tables by text.
use Rattle.std.specs.Prelude.{ℕ, List, [], ◌∷◌, Option, None, Some, if◌then◌else◌}
use Rattle.std.specs.Borrow.{Bor}
use Rattle.std.specs.List.{slice_range}
use Rattle.std.specs.Str.{bytes_eq}
use Rattle.text_core.specs.declared.span.Span.{Span}

-- the bytes of a part
abbrev pub text_in : List ℕ → Span → List ℕ
text_in bytes span = slice_range bytes span.start span.end

-- what stands beside the first row with this text
abbrev pub found_in : {A : Type 0} → List (List ℕ × A) → List ℕ → Option A
found_in [] text = None
found_in ((row, a) ∷ rows) text = if bytes_eq row text then Some a else found_in rows text

-- a row of the code's table
abbrev pub row_of : {A : Type 0} → Bor (List ℕ) × A → List ℕ × A
row_of (text, a) = (text.now, a)
