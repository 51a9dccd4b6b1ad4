-- Which trees have a ground type in a state. The family also lists the references that are met, in order.
use Rattle.std.specs.Prelude.{◌≡◌, ℕ, ℤ, Bool, true, false, List, [], ◌∷◌, ◌++◌, Some}
use Rattle.logic_term.specs.declared.kinds.AdtId.{AdtId}
use Rattle.logic_term.specs.declared.kinds.Ctor.TheVariants.{Tuple, Variant, Closure}
use Rattle.logic_term.specs.declared.kinds.FnKind.{FnKind}
use Rattle.source_kinds.specs.declared.kinds.IntKind.{IntKind}
use Rattle.logic_term.specs.declared.kinds.Region.{Region}
use Rattle.source_kinds.specs.Range.{fits}
use Rattle.logic_term.specs.Sort.{Declarations, instances}
use Rattle.logic_term.specs.Ty.{Ty, Tys, int, bool, tuple, adt, boxed, shared, unique, closure, no_tys, and_ty}
use Rattle.mir_machine.specs.declared.spot.Spot.{Spot}
use Rattle.mir_machine.specs.Try.{Yields}
use Rattle.mir_machine.specs.Tree.{Tree, Trees, Int, Truth, Made, Boxed, Shared, Unique, no_trees, and_tree}
use Rattle.mir_machine.specs.Frame.{State}
use Rattle.mir_machine.specs.Memory.{tree_at}

-- a reference that is met: its place, and the type of what it refers to
pub record Met : Type 0 where
  pub mutable : Bool
  pub place : Spot
  pub of : Ty

-- `Gone` has no type
mutual
  pub data Typed {K : Type 0} (Δ : Declarations) (s : State K) : Tree K → Ty → List Met → Type 0 where
    is_int : {z : ℤ} {k : IntKind} → fits k z ≡ true → Typed Δ s (Int z) (int k) []
    is_truth : {b : Bool} → Typed Δ s (Truth b) bool []
    is_tuple : {ts : Trees K} {tys : Tys} {met : List Met} → AreTyped Δ s ts tys met → Typed Δ s (Made Tuple ts) (tuple tys) met
    is_adt : {d : AdtId} {k : ℕ} {rs : List Region} {tys fields : Tys} {ts : Trees K} {met : List Met} → Δ d k ≡ Some fields → AreTyped Δ s ts (instances tys fields) met → Typed Δ s (Made (Variant d k) ts) (adt d rs tys) met
    is_closure : {n : ℕ} {tys captures params : Tys} {kind : FnKind} {answer : Ty} {ts : Trees K} {met : List Met} → AreTyped Δ s ts captures met → Typed Δ s (Made (Closure n) ts) (closure n tys captures kind params answer) met
    is_boxed : {t : Tree K} {ty : Ty} {met : List Met} → Typed Δ s t ty met → Typed Δ s (Boxed t) (boxed ty) met
    is_shared : {at : Spot} {t : Tree K} {r : Region} {ty : Ty} {met : List Met} → tree_at s at ≡ Yields t → Typed Δ s t ty met → Typed Δ s (Shared at) (shared r ty) (record { mutable = false; place = at; of = ty } ∷ met)
    is_unique : {k : K} {at : Spot} {t : Tree K} {r : Region} {ty : Ty} {met : List Met} → tree_at s at ≡ Yields t → Typed Δ s t ty met → Typed Δ s (Unique k at) (unique r ty) (record { mutable = true; place = at; of = ty } ∷ met)

  pub data AreTyped {K : Type 0} (Δ : Declarations) (s : State K) : Trees K → Tys → List Met → Type 0 where
    none_typed : AreTyped Δ s no_trees no_tys []
    more_typed : {t : Tree K} {ts : Trees K} {ty : Ty} {tys : Tys} {first rest : List Met} → Typed Δ s t ty first → AreTyped Δ s ts tys rest → AreTyped Δ s (and_tree t ts) (and_ty ty tys) (first ++ rest)
