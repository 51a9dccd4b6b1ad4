-- Declared types that hold themselves other than in a box (Rust Reference, "Recursive types": the size of a type is finite).
use Rattle.std.specs.Prelude.{ℕ, List}
use Rattle.logic_term.specs.Ty.{Tys, adt}
use Rattle.logic_term.specs.declared.declaration.AdtDecl.{AdtDecl}
use Rattle.logic_term.specs.declared.kinds.Region.{Region}
use Rattle.rs_types.specs.Bounded.{Bounded, params_from}
use Rattle.rs_types.specs.Growing.{declared_by}

-- no endless chain begins at the declared type of this number, at its own type parameters
abbrev pub IsBounded : List AdtDecl → ℕ → Type 0
IsBounded ds d = (rs : List Region) (m : ℕ) → Bounded (declared_by ds) (adt (record { 0 = d }) rs (params_from m 0))

-- one begins there, whatever its type arguments are
abbrev pub IsEndless : List AdtDecl → ℕ → Type 0
IsEndless ds d = (rs : List Region) (ts : Tys) → Bounded (declared_by ds) (adt (record { 0 = d }) rs ts) → ⊥
