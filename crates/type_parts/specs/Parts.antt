-- The parts of a value of a type: of a tuple by their numbers, of a struct by the names of its fields (Rust Reference, "Tuple indexing expressions", "Field access
-- expressions", "Structs"). Fields that are written without names have numbers for names.
use Rattle.std.specs.Prelude.{ℕ, suc, ℤ, pos, ◌==◌, Bool, true, false, List, [], ◌∷◌, Option, Some, None, slice_get, if◌then◌else◌}
use Rattle.text_core.specs.declared.name.Name.{Name}
use Rattle.source_kinds.specs.declared.kinds.IntKind.{IntKind}
use Rattle.source_trees.specs.declared.path.Number.{Number}
use Rattle.logic_term.specs.declared.declaration.AdtDecl.{AdtDecl}
use Rattle.logic_term.specs.declared.declaration.FieldDecl.{FieldDecl}
use Rattle.logic_term.specs.declared.declaration.VariantDecl.{VariantDecl}
use Rattle.logic_term.specs.Sort.{instance}
use Rattle.logic_term.specs.Sorted.{sort_at}
use Rattle.logic_term.specs.Ty.{Ty, Tys, tuple, adt, boxed}
use Rattle.constructors.specs.FieldNames.{numbered}

-- ---- fields

-- a struct has one variant
abbrev pub only_fields : List VariantDecl → List FieldDecl
only_fields (v ∷ []) = v.fields
only_fields vs = []

-- the fields of a struct
abbrev pub struct_fields : Option AdtDecl → List FieldDecl
struct_fields None = []
struct_fields (Some d) = if d.is_struct then only_fields d.variants else []

-- its type at these types for the parameters
abbrev pub field_at : Tys → FieldDecl → Ty
field_at ts f = instance ts f.ty

-- the field of the name from number k on, and its type at these types for the parameters
abbrev pub field_from : ℕ → Name → Tys → List FieldDecl → Option (ℕ × Ty)
field_from k x ts [] = None
field_from k x ts (f ∷ fs) = if f.name.0 == x.0 then Some (k, field_at ts f) else field_from (suc k) x ts fs

-- the field of the name, in a struct
abbrev pub field_of : List AdtDecl → Name → Ty → Option (ℕ × Ty)
field_of ds x (adt d rs ts) = field_from 0 x ts (struct_fields (slice_get ds d.0))
field_of ds x _ = None

-- ---- parts

-- a number with a type at its end is that of no part
abbrev pub number_by : Option IntKind → ℤ → Option ℕ
number_by None (pos n) = Some n
number_by _ _ = None

abbrev pub part_number : Number → Option ℕ
part_number k = number_by k.suffix k.value

abbrev pub with_number : ℕ → Option Ty → Option (ℕ × Ty)
with_number n None = None
with_number n (Some t) = Some (n, t)

-- the part of the number, in a tuple or in a struct whose fields have numbers for names
abbrev pub part_of : List AdtDecl → Ty → ℕ → Option (ℕ × Ty)
part_of ds (tuple ts) n = with_number n (sort_at ts n)
part_of ds t n = field_of ds (numbered n) t

abbrev pub part_if : List AdtDecl → Ty → Option ℕ → Option (ℕ × Ty)
part_if ds t None = None
part_if ds t (Some n) = part_of ds t n

abbrev pub is_boxed : Ty → Bool
is_boxed (boxed t) = true
is_boxed _ = false
