-- What the values of a sort are made of.
use Rattle.std.proofs.Common.{◌≡◌, ℕ, zero, suc, ℤ, Bool, true, refl, ap, ap₂, Some}
use Rattle.logic_term.specs.declared.kinds.Ctor.TheVariants.{Tuple, Variant, Closure}
use Rattle.logic_term.specs.Ty.{Ty, Tys, int, bool, math_int, tuple, adt, boxed, shared, unique, param, closure, viewed, snapshot, no_tys, and_ty}
use Rattle.source_kinds.specs.Range.{fits}
use Rattle.logic_term.specs.Value.{Value, Values, Number, Flag, Made, Pair, no_values, and_value}
use Rattle.logic_term.specs.Sort.{Declarations, nth_ty, instance, instances, HasSort, HaveSorts, of_int, of_math_int, of_bool, of_tuple, of_adt, of_closure, of_boxed, of_shared, of_snapshot, of_unique, of_none, of_more}

-- what a value of the sort is, and the sorts of its parts
abbrev pub Parts : Declarations → Ty → Value → Type 0
Parts Δ (int k) v = (z : ℤ) × (v ≡ Number z) × (fits k z ≡ true)
Parts Δ bool v = (b : Bool) × (v ≡ Flag b)
Parts Δ math_int v = (z : ℤ) × (v ≡ Number z)
Parts Δ (tuple ts) v = (vs : Values) × (v ≡ Made Tuple vs) × HaveSorts Δ vs ts
Parts Δ (adt d rs ts) v = (k : ℕ) × (fs : Tys) × (vs : Values) × (v ≡ Made (Variant d k) vs) × (Δ d k ≡ Some fs) × HaveSorts Δ vs (instances ts fs)
Parts Δ (boxed t) v = HasSort Δ v t
Parts Δ (shared r t) v = HasSort Δ v t
Parts Δ (unique r t) v = (a : Value) × (b : Value) × (v ≡ Pair a b) × HasSort Δ a t × HasSort Δ b t
Parts Δ (param n) v = ⊥
Parts Δ (closure n ts cs k ps r) v = (vs : Values) × (v ≡ Made (Closure n) vs) × HaveSorts Δ vs cs
Parts Δ (viewed t) v = ⊥
Parts Δ (snapshot t) v = HasSort Δ v t

pub parts : (Δ : Declarations) (v : Value) (t : Ty) → HasSort Δ v t → Parts Δ t v
parts Δ v t (of_int {z = z} f) = (z, refl, f)
parts Δ v t (of_math_int {z = z}) = (z, refl)
parts Δ v t (of_bool {b = b}) = (b, refl)
parts Δ v t (of_tuple {vs = vs} h) = (vs, refl, h)
parts Δ v t (of_adt {k = k} {fs = fs} {vs = vs} d h) = (k, fs, vs, refl, d, h)
parts Δ v t (of_closure {vs = vs} h) = (vs, refl, h)
parts Δ v t (of_boxed h) = h
parts Δ v t (of_shared h) = h
parts Δ v t (of_snapshot h) = h
parts Δ v t (of_unique {v = a} {w = b} h g) = (a, b, refl, h, g)

abbrev pub AllParts : Declarations → Tys → Values → Type 0
AllParts Δ no_tys vs = vs ≡ no_values
AllParts Δ (and_ty t ts) vs = (v : Value) × (ws : Values) × (vs ≡ and_value v ws) × HasSort Δ v t × HaveSorts Δ ws ts

pub all_parts : (Δ : Declarations) (vs : Values) (ts : Tys) → HaveSorts Δ vs ts → AllParts Δ ts vs
all_parts Δ vs ts of_none = refl
all_parts Δ vs ts (of_more {v = v} {vs = ws} h g) = (v, ws, refl, h, g)

nth_instance : (θ ts : Tys) (n : ℕ) → instance θ (nth_ty ts n) ≡ nth_ty (instances θ ts) n
nth_instance θ no_tys n = refl
nth_instance θ (and_ty t ts) zero = refl
nth_instance θ (and_ty t ts) (suc n) = nth_instance θ ts n

mutual
  pub instance_instance : (θ ts : Tys) (t : Ty) → instance θ (instance ts t) ≡ instance (instances θ ts) t
  instance_instance θ ts (int k) = refl
  instance_instance θ ts bool = refl
  instance_instance θ ts math_int = refl
  instance_instance θ ts (tuple us) = ap tuple (instances_instances θ ts us)
  instance_instance θ ts (adt d rs us) = ap (adt d rs) (instances_instances θ ts us)
  instance_instance θ ts (boxed t) = ap boxed (instance_instance θ ts t)
  instance_instance θ ts (shared r t) = ap (shared r) (instance_instance θ ts t)
  instance_instance θ ts (unique r t) = ap (unique r) (instance_instance θ ts t)
  instance_instance θ ts (param n) = nth_instance θ ts n
  instance_instance θ ts (closure n us cs k ps r) = λ i. closure n (instances_instances θ ts us i) (instances_instances θ ts cs i) k (instances_instances θ ts ps i) (instance_instance θ ts r i)
  instance_instance θ ts (viewed t) = ap viewed (instance_instance θ ts t)
  instance_instance θ ts (snapshot t) = ap snapshot (instance_instance θ ts t)

  pub instances_instances : (θ ts us : Tys) → instances θ (instances ts us) ≡ instances (instances θ ts) us
  instances_instances θ ts no_tys = refl
  instances_instances θ ts (and_ty u us) = ap₂ and_ty (instance_instance θ ts u) (instances_instances θ ts us)
