-- Declared types that have a value, and those that have none: a value is finite.
use Rattle.std.specs.Prelude.{ℕ, List}
use Rattle.logic_term.specs.Sort.{Declarations, HasSort, nth_ty}
use Rattle.logic_term.specs.Ty.{Ty, Tys, adt}
use Rattle.logic_term.specs.Value.{Value}
use Rattle.logic_term.specs.declared.declaration.AdtDecl.{AdtDecl}
use Rattle.logic_term.specs.declared.kinds.Region.{Region}
use Rattle.rs_types.specs.Growing.{declared_by}

abbrev pub HasValue : Declarations → Ty → Type 0
HasValue Δ t = (v : Value) × HasSort Δ v t

-- the declared type of this number has a value where each of its type arguments has one
abbrev pub IsInhabited : List AdtDecl → ℕ → Type 0
IsInhabited ds d = (rs : List Region) (ts : Tys) → ((i : ℕ) → HasValue (declared_by ds) (nth_ty ts i)) → HasValue (declared_by ds) (adt (record { 0 = d }) rs ts)

-- it has none, whatever its type arguments are
abbrev pub IsEmpty : List AdtDecl → ℕ → Type 0
IsEmpty ds d = (rs : List Region) (ts : Tys) → HasValue (declared_by ds) (adt (record { 0 = d }) rs ts) → ⊥
