-- Sets of forms, and where the first form begins that is not in one. A place is the byte at which a form begins.
use Rattle.std.specs.Prelude.{ℕ, ◌+◌, ◌==◌, Bool, true, false, List, [], ◌∷◌, Option, Some, None, if◌then◌else◌}
use denote.Enum.Declared.{tag_of}
use Rattle.text_core.specs.declared.span.Span.{Span}
use Rattle.source_forms.specs.declared.form.Form.{Form}
use Rattle.source_forms.specs.contracts.form.Form.{the_type}

-- how many forms stand before this one in `Form`
abbrev pub number : Form → ℕ
number form = tag_of the_type form

-- the set of the forms of a list
unfoldable pub is_among : List Form → Form → Bool
is_among [] form = false
is_among (one ∷ forms) form = if number one == number form then true else is_among forms form

-- ---- places

-- the place in one part, and else that in what stands behind it
infixr 5 ◌or_else◌
abbrev pub ◌or_else◌ : Option ℕ → Option ℕ → Option ℕ
None or_else rest = rest
Some start or_else rest = Some start

-- the form itself, which begins where its span does
abbrev pub here : (Form → Bool) → Form → Span → Option ℕ
here F form span = if F form then None else Some span.start

-- the `let` behind the first token of a span: it is the first token that begins behind the first byte
abbrev pub behind : (Form → Bool) → Form → Span → Option ℕ
behind F form span = if F form then None else Some (span.start + 1)

-- in a part that may be missing
abbrev pub in_some : {A : Type 0} → (A → Option ℕ) → Option A → Option ℕ
in_some f None = None
in_some f (Some x) = f x

-- in the parts of a list
abbrev pub in_each : {A : Type 0} → (A → Option ℕ) → List A → Option ℕ
in_each f [] = None
in_each f (x ∷ xs) = f x or_else in_each f xs
