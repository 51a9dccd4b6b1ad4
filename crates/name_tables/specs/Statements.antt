-- The laws of tables of names that grow.
use Rattle.std.specs.Prelude.{◌≡◌, ℕ, ◌<◌, ◌^◌, List, [], ◌++◌, length, Some, slice_get}
use Rattle.text_core.specs.declared.name.Name.{Name}
use Rattle.text_core.specs.Names.{words, text_of, HaveOnePlace}
use Rattle.name_tables.specs.NameTables.{with_names}

abbrev pub StartsWithOnePlace : Type 0
StartsWithOnePlace = HaveOnePlace (words ++ [])

abbrev pub KeepsOnePlace : Type 0
KeepsOnePlace = (given texts : List (List ℕ)) → HaveOnePlace (words ++ given) → HaveOnePlace (words ++ with_names given texts)

abbrev pub KeepsNames : Type 0
KeepsNames = (given texts : List (List ℕ)) (name : Name) (text : List ℕ) → text_of given name ≡ Some text → text_of (with_names given texts) name ≡ Some text

-- the text that stands at some place among those that are used has a name
abbrev pub NamesThem : Type 0
NamesThem = (given texts : List (List ℕ)) (at : ℕ) (text : List ℕ) → slice_get texts at ≡ Some text → length (words ++ with_names given texts) < 2 ^ 63
    → (name : Name) × (text_of (with_names given texts) name ≡ Some text)
