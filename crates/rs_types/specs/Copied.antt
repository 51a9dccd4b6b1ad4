-- Which types are Copy: their values may be used again after they were copied (Rust Reference, "Special types and traits", `Copy`, and "Derive").
use Rattle.std.specs.Prelude.{◌≡◌, ℕ, true, List, Some, slice_get}
use Rattle.logic_term.specs.Sort.{instances}
use Rattle.logic_term.specs.Ty.{Ty, Tys, int, bool, tuple, adt, shared, snapshot, no_tys, and_ty}
use Rattle.logic_term.specs.declared.declaration.AdtDecl.{AdtDecl}
use Rattle.logic_term.specs.declared.kinds.AdtId.{AdtId}
use Rattle.logic_term.specs.declared.kinds.Region.{Region}
use Rattle.rs_types.specs.Growing.{declared_by}
use Rattle.source_kinds.specs.declared.kinds.IntKind.{IntKind}

-- Integers, `bool`, tuples of Copy types, shared references, snapshots, and a declared type that derives Copy where the fields of all its variants are,
-- at its type arguments. What it needs is found in the fields alone: rustc asks it of each type argument too, also of one that stands behind `&` alone.
-- A type parameter is not Copy: it has no bounds yet.
mutual
  pub data IsCopy (ds : List AdtDecl) : Ty → Type 0 where
    of_int : {k : IntKind} → IsCopy ds (int k)
    of_bool : IsCopy ds bool
    of_tuple : {ts : Tys} → AreCopy ds ts → IsCopy ds (tuple ts)
    of_shared : {r : Region} {t : Ty} → IsCopy ds (shared r t)
    of_snapshot : {t : Ty} → IsCopy ds (snapshot t)
    of_declared : {d : AdtId} {rs : List Region} {ts : Tys} {decl : AdtDecl} → slice_get ds d.0 ≡ Some decl → decl.copy ≡ true
        → ((k : ℕ) (fs : Tys) → declared_by ds d k ≡ Some fs → AreCopy ds (instances ts fs)) → IsCopy ds (adt d rs ts)

  pub data AreCopy (ds : List AdtDecl) : Tys → Type 0 where
    none_copy : AreCopy ds no_tys
    more_copy : {t : Ty} {ts : Tys} → IsCopy ds t → AreCopy ds ts → AreCopy ds (and_ty t ts)
