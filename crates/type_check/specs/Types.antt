-- Tests of types.
use Rattle.std.specs.Prelude.{ℕ, nat_le, Bool, true, false, ◌&&◌, List, [], length, Option, Some, None, slice_get}
use Rattle.logic_term.specs.declared.declaration.AdtDecl.{AdtDecl}
use Rattle.logic_term.specs.Ty.{Ty, Tys, int, bool, tuple, adt, boxed, no_tys, and_ty}
use Rattle.rs_types.specs.Meant.{words}
pub use Rattle.logic_elab.specs.Sorts.{same_ty, is_bool}
use Rattle.type_check.specs.WellTyped.{is_signed}

abbrev pub is_signed_ty : Ty → Bool
is_signed_ty (int k) = is_signed k
is_signed_ty _ = false

-- ---- the types that are built in functions: the machine integers, the truth values, tuples, boxes, and declared types without lifetimes, whose name is no
-- word of types

abbrev pub word_count : ℕ
word_count = length words

abbrev pub may_name : Option AdtDecl → Bool
may_name None = false
may_name (Some d) = nat_le word_count d.name.0

abbrev mutual
  pub is_built : List AdtDecl → Ty → Bool
  is_built ds (int k) = true
  is_built ds bool = true
  is_built ds (tuple ts) = are_built ds ts
  is_built ds (boxed t) = is_built ds t
  is_built ds (adt d [] ts) = may_name (slice_get ds d.0) && are_built ds ts
  is_built ds _ = false

  pub are_built : List AdtDecl → Tys → Bool
  are_built ds no_tys = true
  are_built ds (and_ty t ts) = is_built ds t && are_built ds ts
