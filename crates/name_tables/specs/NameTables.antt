-- Tables of names that grow: a text is given a name where it is used first.
use Rattle.std.specs.Prelude.{ℕ, Bool, List, [], ◌∷◌, ◌++◌, if◌then◌else◌}
use Rattle.std.specs.List.{list_any}
use Rattle.std.specs.Str.{bytes_eq}
use Rattle.text_core.specs.Names.{words}

-- the text has a name in the table that was given these texts
abbrev pub is_named : List (List ℕ) → List ℕ → Bool
is_named given text = list_any (bytes_eq text) (words ++ given)

-- the table with a name for the text
abbrev pub with_name : List (List ℕ) → List ℕ → List (List ℕ)
with_name given text = if is_named given text then given else given ++ text ∷ []

-- the table with a name for each of the texts, in order of first use
abbrev pub with_names : List (List ℕ) → List (List ℕ) → List (List ℕ)
with_names given [] = given
with_names given (text ∷ texts) = with_names (with_name given text) texts
