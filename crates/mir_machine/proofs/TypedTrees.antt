-- What trees of a type look like, and where they keep their type.
use Rattle.std.proofs.Common.{◌≡◌, ◌∙◌, refl, ap, ℕ, ℤ, Bool, true, List, [], ◌∷◌, ◌++◌, Some}
use Rattle.source_kinds.specs.Range.{fits}
use Rattle.source_kinds.specs.declared.kinds.IntKind.{IntKind}
use Rattle.logic_term.specs.declared.kinds.AdtId.{AdtId}
use Rattle.logic_term.specs.declared.kinds.Ctor.TheVariants.{Tuple, Variant}
use Rattle.logic_term.specs.declared.kinds.Region.{Region}
use Rattle.logic_term.specs.Sort.{Declarations, instances}
use Rattle.logic_term.specs.Ty.{Ty, Tys, int, bool, tuple, adt, no_tys, and_ty}
use Rattle.mir_machine.specs.declared.spot.Spot.{Spot}
use Rattle.mir_machine.specs.Try.{Yields}
use Rattle.mir_machine.specs.Tree.{Tree, Trees, Int, Truth, Made, no_trees}
use Rattle.mir_machine.specs.Frame.{State}
use Rattle.mir_machine.specs.Memory.{is_there, tree_at}
use Rattle.mir_machine.specs.Typed.{Met, Typed, AreTyped, is_int, is_truth, is_tuple, is_adt, is_closure, is_boxed, is_shared, is_unique, none_typed, more_typed}
use Rattle.mir_machine.specs.Good.{Each}
use Rattle.mir_machine.specs.Invariant.{HasType}

-- ---- lists

pub each_to : {A : Type 0} (P Q : A → Type 0) (xs : List A) → ((x : A) → P x → Q x) → Each P xs → Each Q xs
each_to P Q [] f h = tt
each_to P Q (x ∷ xs) f h = (f x h.0, each_to P Q xs f h.1)

pub each_front : {A : Type 0} (P : A → Type 0) (xs ys : List A) → Each P (xs ++ ys) → Each P xs
each_front P [] ys h = tt
each_front P (x ∷ xs) ys h = (h.0, each_front P xs ys h.1)

pub each_behind : {A : Type 0} (P : A → Type 0) (xs ys : List A) → Each P (xs ++ ys) → Each P ys
each_behind P [] ys h = h
each_behind P (x ∷ xs) ys h = each_behind P xs ys h.1

-- ---- what typed trees look like

abbrev pub IsThere : {K : Type 0} → Tree K → Type 0
IsThere t = is_there t ≡ Yields t

-- an integer of the type, a truth value, or `()`; nothing is said of other types
abbrev pub IsOf : {K : Type 0} → Ty → Tree K → Type 0
IsOf (int k) t = (z : ℤ) × (t ≡ Int z) × (fits k z ≡ true)
IsOf bool t = (b : Bool) × (t ≡ Truth b)
IsOf (tuple no_tys) t = t ≡ Made Tuple no_trees
IsOf _ t = Unit {0}

abbrev pub Shape : {K : Type 0} → Ty → Tree K → Type 0
Shape ty t = IsThere t × IsOf ty t

no_parts : {K : Type 0} (Δ : Declarations) (s : State K) (ts : Trees K) (met : List Met) → AreTyped Δ s ts no_tys met → ts ≡ no_trees
no_parts Δ s ts met none_typed = refl

tuple_shape : {K : Type 0} (Δ : Declarations) (s : State K) (ts : Trees K) (tys : Tys) (met : List Met) → AreTyped Δ s ts tys met → IsOf (tuple tys) (Made Tuple ts)
tuple_shape Δ s ts no_tys met h = ap (λ us. Made Tuple us) (no_parts Δ s ts met h)
tuple_shape Δ s ts (and_ty ty tys) met h = tt

pub typed_shape : {K : Type 0} (Δ : Declarations) (s : State K) (t : Tree K) (ty : Ty) (met : List Met) → Typed Δ s t ty met → Shape ty t
typed_shape Δ s t ty met (is_int {z} {k} e) = (refl, (z, refl, e))
typed_shape Δ s t ty met (is_truth {b}) = (refl, (b, refl))
typed_shape Δ s t ty met (is_tuple {ts} {tys} h) = (refl, tuple_shape Δ s ts tys met h)
typed_shape Δ s t ty met (is_adt e h) = (refl, tt)
typed_shape Δ s t ty met (is_closure h) = (refl, tt)
typed_shape Δ s t ty met (is_boxed h) = (refl, tt)
typed_shape Δ s t ty met (is_shared e h) = (refl, tt)
typed_shape Δ s t ty met (is_unique e h) = (refl, tt)

-- a tree of a declared type is one of its variants
pub adt_shape : {K : Type 0} (Δ : Declarations) (s : State K) (t : Tree K) (d : AdtId) (rs : List Region) (tys : Tys) (met : List Met) → Typed Δ s t (adt d rs tys) met
    → (k : ℕ) × (fs : Tys) × (ts : Trees K) × (t ≡ Made (Variant d k) ts) × (Δ d k ≡ Some fs) × AreTyped Δ s ts (instances tys fs) met
adt_shape Δ s t d rs tys met (is_adt {k = k} {fields = fs} {ts = ts} e h) = (k, fs, ts, refl, e, h)

-- ---- other states

-- the spot holds in both states the same
abbrev IsSame : {K : Type 0} → State K → State K → Met → Type 0
IsSame s u r = tree_at u r.place ≡ tree_at s r.place

mutual
  -- a tree is typed in each state that has the same behind the references that are met
  pub typed_same : {K : Type 0} (Δ : Declarations) (s u : State K) (t : Tree K) (ty : Ty) (met : List Met) → Typed Δ s t ty met → Each (IsSame s u) met → Typed Δ u t ty met
  typed_same Δ s u t ty met (is_int e) same = is_int e
  typed_same Δ s u t ty met (is_truth) same = is_truth
  typed_same Δ s u t ty met (is_tuple {ts} {tys} h) same = is_tuple (are_same Δ s u ts tys met h same)
  typed_same Δ s u t ty met (is_adt {ts = ts} e h) same = is_adt e (are_same Δ s u ts _ met h same)
  typed_same Δ s u t ty met (is_closure {captures = captures} {ts = ts} h) same = is_closure (are_same Δ s u ts captures met h same)
  typed_same Δ s u t ty met (is_boxed {t = v} {ty = of} h) same = is_boxed (typed_same Δ s u v of met h same)
  typed_same Δ s u t ty met (is_shared {t = v} {ty = of} {met = more} e h) same = is_shared (same.0 ∙ e) (typed_same Δ s u v of more h same.1)
  typed_same Δ s u t ty met (is_unique {t = v} {ty = of} {met = more} e h) same = is_unique (same.0 ∙ e) (typed_same Δ s u v of more h same.1)

  are_same : {K : Type 0} (Δ : Declarations) (s u : State K) (ts : Trees K) (tys : Tys) (met : List Met) → AreTyped Δ s ts tys met → Each (IsSame s u) met → AreTyped Δ u ts tys met
  are_same Δ s u ts tys met none_typed same = none_typed
  are_same Δ s u ts tys met (more_typed {t = t} {ts = us} {ty = ty} {tys = more} {first = first} {rest = rest} h hs) same =
      more_typed (typed_same Δ s u t ty first h (each_front (IsSame s u) first rest same)) (are_same Δ s u us more rest hs (each_behind (IsSame s u) first rest same))

-- the outside is the same in both states
abbrev pub SameOutside : {K : Type 0} → State K → State K → Type 0
SameOutside s u = (at : Spot) → at.frame ≡ 0 → tree_at u at ≡ tree_at s at

pub has_type_kept : {K : Type 0} {Δ : Declarations} {s : State K} {ty : Ty} {t : Tree K} (u : State K) → SameOutside s u → HasType Δ s ty t → HasType Δ u ty t
has_type_kept {Δ = Δ} {s = s} {ty = ty} {t = t} u same h = record {
  met = h.met;
  typed = typed_same Δ s u t ty h.met h.typed (each_to (λ r. r.place.frame ≡ 0) (IsSame s u) h.met (λ r at. same r.place at) h.outer);
  outer = h.outer;
}

-- ---- trees that refer to nothing

pub has_shape : {K : Type 0} {Δ : Declarations} {s : State K} {ty : Ty} {t : Tree K} → HasType Δ s ty t → Shape ty t
has_shape {Δ = Δ} {s = s} {ty = ty} {t = t} h = typed_shape Δ s t ty h.met h.typed

pub has_int : {K : Type 0} {Δ : Declarations} {s : State K} (k : IntKind) (z : ℤ) → fits k z ≡ true → HasType Δ s (int k) (Int z)
has_int k z e = record { met = []; typed = is_int e; outer = tt }

pub has_truth : {K : Type 0} {Δ : Declarations} {s : State K} (b : Bool) → HasType Δ s bool (Truth b)
has_truth b = record { met = []; typed = is_truth; outer = tt }
