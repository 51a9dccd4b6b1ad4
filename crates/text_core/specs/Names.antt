-- Tables of names: which texts have names.
use Rattle.std.specs.Prelude.{◌≡◌, ℕ, ◌^◌, List, [], ◌∷◌, ◌++◌, map, codes, String, Option, None, Some, slice_get, if◌then◌else◌, nat_lt}
use Rattle.std.specs.HashSet.{HashSet}
use Rattle.std.specs.String.{string_bytes}
use Rattle.text_core.specs.declared.name.Name.{Name}

-- the words of types, traits and library items, which have the same names in every table, by their order here
abbrev pub words : List (List ℕ)
words =
    codes "i8" ∷ codes "i16" ∷ codes "i32" ∷ codes "i64" ∷ codes "isize"
    ∷ codes "u8" ∷ codes "u16" ∷ codes "u32" ∷ codes "u64" ∷ codes "usize"
    ∷ codes "bool" ∷ codes "Int" ∷ codes "Box" ∷ codes "new"
    ∷ codes "Option" ∷ codes "None" ∷ codes "Some"
    ∷ codes "Copy" ∷ codes "Fn" ∷ codes "FnMut" ∷ codes "FnOnce"
    ∷ codes "View" ∷ codes "ViewTy" ∷ codes "view"
    ∷ codes "mem" ∷ codes "swap" ∷ codes "replace" ∷ []

-- the text that a name stands for, in a table that was given these texts beside the words; `fresh` names stand for none
abbrev pub text_of : List (List ℕ) → Name → Option (List ℕ)
text_of given name = if nat_lt name.0 (2 ^ 63) then slice_get (words ++ given) name.0 else None

-- the texts of a set, in order
abbrev pub texts : {A S : Type 0} → HashSet (String A) S → List (List ℕ)
texts set = map string_bytes set.keys

-- no text stands at two places
abbrev pub HaveOnePlace : List (List ℕ) → Type 0
HaveOnePlace ts = (i j : ℕ) (text : List ℕ) → slice_get ts i ≡ Some text → slice_get ts j ≡ Some text → i ≡ j
