-- References in one another: a type under `&` or `&mut` holds no reference, the fields of declared types being written out at the
-- type arguments.
use Rattle.std.specs.Prelude.{◌≡◌, ℕ, suc, Some, List}
use Rattle.logic_term.specs.declared.kinds.AdtId.{AdtId}
use Rattle.logic_term.specs.declared.kinds.FnKind.{FnKind}
use Rattle.logic_term.specs.declared.kinds.Region.{Region}
use Rattle.logic_term.specs.Sort.{Declarations, instance, instances, nth_ty}
use Rattle.logic_term.specs.Ty.{Ty, Tys, tuple, adt, boxed, shared, unique, closure, snapshot}

-- so many references stand in one another in the type
pub data Nests (Δ : Declarations) : ℕ → Ty → Type 0 where
  no_nests : {t : Ty} → Nests Δ 0 t
  shared_nests : {n : ℕ} {r : Region} {t : Ty} → Nests Δ n t → Nests Δ (suc n) (shared r t)
  unique_nests : {n : ℕ} {r : Region} {t : Ty} → Nests Δ n t → Nests Δ (suc n) (unique r t)
  tuple_nests : {n : ℕ} {ts : Tys} (i : ℕ) → Nests Δ n (nth_ty ts i) → Nests Δ n (tuple ts)
  boxed_nests : {n : ℕ} {t : Ty} → Nests Δ n t → Nests Δ n (boxed t)
  snapshot_nests : {n : ℕ} {t : Ty} → Nests Δ n t → Nests Δ n (snapshot t)
  closure_nests : {n m : ℕ} {ts cs ps : Tys} {k : FnKind} {r : Ty} (i : ℕ) → Nests Δ n (nth_ty cs i) → Nests Δ n (closure m ts cs k ps r)
  adt_nests : {n : ℕ} {d : AdtId} {rs : List Region} {ts : Tys} (k i : ℕ) (fs : Tys) → Δ d k ≡ Some fs → Nests Δ n (nth_ty (instances ts fs) i) → Nests Δ n (adt d rs ts)

-- no reference stands in the types
abbrev pub HoldNone : Declarations → Tys → Type 0
HoldNone Δ ts = (i : ℕ) → Nests Δ 1 (nth_ty ts i) → ⊥

-- at type arguments that hold no reference, no reference stands in a reference
abbrev pub IsFlat : Declarations → Ty → Type 0
IsFlat Δ t = (ts : Tys) → HoldNone Δ ts → Nests Δ 2 (instance ts t) → ⊥

-- one does, whatever the type arguments are
abbrev pub IsNested : Declarations → Ty → Type 0
IsNested Δ t = (ts : Tys) → Nests Δ 2 (instance ts t)
