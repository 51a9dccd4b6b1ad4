-- What is found is a part of what has the type.
use Rattle.std.specs.Prelude.{ℕ, List, Option, Some, None}
use Rattle.text_core.specs.declared.name.Name.{Name}
use Rattle.logic_term.specs.declared.declaration.AdtDecl.{AdtDecl}
use Rattle.logic_term.specs.Sorted.{FieldSort}
use Rattle.logic_term.specs.Ty.{Ty}
use Rattle.type_parts.specs.Parts.{field_of, part_if}

-- the part of that number, if there is one, has that sort
abbrev pub IsPart : List AdtDecl → Ty → Option (ℕ × Ty) → Type 0
IsPart ds t None = Unit {0}
IsPart ds t (Some p) = FieldSort (record { adts = ds }) t p.0 p.1

-- by a name, and by a number
abbrev pub FoundPartsHaveTheirSorts : Type 0
FoundPartsHaveTheirSorts = (ds : List AdtDecl) (t : Ty) → ((x : Name) → IsPart ds t (field_of ds x t)) × ((n : Option ℕ) → IsPart ds t (part_if ds t n))
