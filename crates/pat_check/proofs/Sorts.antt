-- What the values of a type look like, and types at types.
use Rattle.std.proofs.Common.{◌≡◌, refl, sym, ap, ◌∙◌, subst, ℕ, zero, suc, ℤ, Bool, true, Option, Some, None}
use Rattle.source_kinds.specs.Range.{fits}
use Rattle.source_kinds.specs.declared.kinds.IntKind.{IntKind}
use Rattle.logic_term.specs.Matches.{seen, is_made}
use Rattle.logic_term.specs.Sort.{Declarations, HasSort, HaveSorts, instance, instances, nth_ty, of_int, of_math_int, of_bool, of_tuple, of_adt, of_closure, of_boxed, of_shared, of_snapshot, of_unique, of_none, of_more}
use Rattle.logic_term.specs.Ty.{Ty, Tys, int, bool, math_int, tuple, adt, boxed, shared, unique, param, closure, viewed, snapshot, no_tys, and_ty}
use Rattle.logic_term.specs.Value.{Value, Values, Number, Flag, Made, no_values, and_value, parts_of}
use Rattle.logic_term.specs.declared.kinds.AdtId.{AdtId}
use Rattle.logic_term.specs.declared.kinds.Ctor.{Ctor}
use Rattle.logic_term.specs.declared.kinds.Ctor.TheVariants.{Tuple, Variant}
use Rattle.pat_check.proofs.Tests.{ctor_same}
use Rattle.pat_check.specs.Typed.{core, integers, is_integer, PartsOf}

abbrev pub Looks : Declarations → Value → Ty → Type 0
Looks Δ v (int k) = (z : ℤ) × (v ≡ Number z) × (fits k z ≡ true)
Looks Δ v math_int = (z : ℤ) × (v ≡ Number z)
Looks Δ v bool = (b : Bool) × (v ≡ Flag b)
Looks Δ v (tuple ts) = (vs : Values) × (v ≡ Made Tuple vs) × HaveSorts Δ vs ts
Looks Δ v (adt d rs ts) = (k : ℕ) × (fs : Tys) × (vs : Values) × (Δ d k ≡ Some fs) × (v ≡ Made (Variant d k) vs) × HaveSorts Δ vs (instances ts fs)
Looks Δ v _ = Unit {0}

pub looks : (Δ : Declarations) (v : Value) (t : Ty) → HasSort Δ v t → Looks Δ v t
looks Δ v t (of_int {z} {k} e) = (z, refl, e)
looks Δ v t (of_math_int {z}) = (z, refl)
looks Δ v t (of_bool {b}) = (b, refl)
looks Δ v t (of_tuple {vs} {ts} h) = (vs, refl, h)
looks Δ v t (of_adt {d} {k} {rs} {ts} {fs} {vs} e h) = (k, fs, vs, e, refl, h)
looks Δ v t (of_closure h) = tt
looks Δ v t (of_boxed h) = tt
looks Δ v t (of_shared h) = tt
looks Δ v t (of_snapshot h) = tt
looks Δ v t (of_unique h g) = tt

pub seen_sort : (Δ : Declarations) (v : Value) (t : Ty) → HasSort Δ v t → HasSort Δ (seen v) (core t)
seen_sort Δ v t (of_int e) = of_int e
seen_sort Δ v t of_math_int = of_math_int
seen_sort Δ v t of_bool = of_bool
seen_sort Δ v t (of_tuple h) = of_tuple h
seen_sort Δ v t (of_adt e h) = of_adt e h
seen_sort Δ v t (of_closure h) = of_closure h
seen_sort Δ v t (of_boxed h) = seen_sort Δ _ _ h
seen_sort Δ v t (of_shared h) = seen_sort Δ _ _ h
seen_sort Δ v t (of_snapshot h) = seen_sort Δ _ _ h
seen_sort Δ v t (of_unique h g) = seen_sort Δ _ _ h

core_instance : (θ : Tys) (t : Ty) → core (instance θ t) ≡ core (instance θ (core t))
core_instance θ (int k) = refl
core_instance θ bool = refl
core_instance θ math_int = refl
core_instance θ (tuple ts) = refl
core_instance θ (adt d rs ts) = refl
core_instance θ (boxed t) = core_instance θ t
core_instance θ (shared r t) = core_instance θ t
core_instance θ (unique r t) = core_instance θ t
core_instance θ (param n) = refl
core_instance θ (closure n ts cs k ps r) = refl
core_instance θ (viewed t) = refl
core_instance θ (snapshot t) = core_instance θ t

-- the value behind references looks as the type behind them says
pub looks_behind : (Δ : Declarations) (θ : Tys) (t s : Ty) (v : Value) → core t ≡ s → HasSort Δ v (instance θ t) → Looks Δ (seen v) (core (instance θ s))
looks_behind Δ θ t s v e h = looks Δ (seen v) _ (subst (λ u. HasSort Δ (seen v) u) (core_instance θ t ∙ ap (λ u. core (instance θ u)) e) (seen_sort Δ v (instance θ t) h))

nth_instances : (θ ts : Tys) (n : ℕ) → instance θ (nth_ty ts n) ≡ nth_ty (instances θ ts) n
nth_instances θ no_tys n = refl
nth_instances θ (and_ty t ts) zero = refl
nth_instances θ (and_ty t ts) (suc n) = nth_instances θ ts n

mutual
  instance_twice : (θ us : Tys) (t : Ty) → instance θ (instance us t) ≡ instance (instances θ us) t
  instance_twice θ us (int k) = refl
  instance_twice θ us bool = refl
  instance_twice θ us math_int = refl
  instance_twice θ us (tuple ts) = ap tuple (instances_twice θ us ts)
  instance_twice θ us (adt d rs ts) = ap (adt d rs) (instances_twice θ us ts)
  instance_twice θ us (boxed t) = ap boxed (instance_twice θ us t)
  instance_twice θ us (shared r t) = ap (shared r) (instance_twice θ us t)
  instance_twice θ us (unique r t) = ap (unique r) (instance_twice θ us t)
  instance_twice θ us (param n) = nth_instances θ us n
  instance_twice θ us (closure n ts cs k ps r) = λ i. closure n (instances_twice θ us ts i) (instances_twice θ us cs i) k (instances_twice θ us ps i) (instance_twice θ us r i)
  instance_twice θ us (viewed t) = ap viewed (instance_twice θ us t)
  instance_twice θ us (snapshot t) = ap snapshot (instance_twice θ us t)

  pub instances_twice : (θ us ts : Tys) → instances θ (instances us ts) ≡ instances (instances θ us) ts
  instances_twice θ us no_tys = refl
  instances_twice θ us (and_ty t ts) = λ i. and_ty (instance_twice θ us t i) (instances_twice θ us ts i)

some_same : {A : Type 0} {a b : A} → Some a ≡ Some b → a ≡ b
some_same e = cc

variants_same : (d e : AdtId) (k j : ℕ) → Variant d k ≡ Variant e j → k ≡ j
variants_same d e k j p = cc

-- the parts_of of a value that is made so have the types of the parts_of
parts_as : (Δ : Declarations) (θ : Tys) (s : Ty) (c : Ctor) (fs : Tys) (u : Value) → PartsOf Δ s c fs → Looks Δ u (core (instance θ s)) → is_made c u ≡ true → HaveSorts Δ (parts_of u) (instances θ fs)
parts_as Δ θ (tuple ts) Tuple fs u e (vs, is, h) m = subst (λ gs. HaveSorts Δ (parts_of u) (instances θ gs)) e (subst (λ x. HaveSorts Δ (parts_of x) (instances θ ts)) (sym is) h)
parts_as Δ θ (adt d rs ts) (Variant e k) fs u (gs, same, some, inst) (j, hs, vs, has, is, h) m =
    let c : Variant e k ≡ Variant d j = ctor_same (Variant e k) (Variant d j) (subst (λ x. is_made (Variant e k) x ≡ true) is m) in
    let g : gs ≡ hs = some_same (sym some ∙ ap (Δ d) (variants_same e d k j c) ∙ has) in
    let at_gs : HaveSorts Δ vs (instances (instances θ ts) gs) = subst (λ x. HaveSorts Δ vs (instances (instances θ ts) x)) (sym g) h in
    let at_fs : HaveSorts Δ vs (instances θ fs) = subst (λ x. HaveSorts Δ vs x) (sym (instances_twice θ ts gs) ∙ ap (instances θ) inst) at_gs in
    subst (λ x. HaveSorts Δ (parts_of x) (instances θ fs)) (sym is) at_fs
parts_as Δ θ s c fs u po l m = absurd po

pub parts_sorts : (Δ : Declarations) (θ : Tys) (t : Ty) (c : Ctor) (fs : Tys) (v : Value) → PartsOf Δ (core t) c fs → HasSort Δ v (instance θ t) → is_made c (seen v) ≡ true → HaveSorts Δ (parts_of (seen v)) (instances θ fs)
parts_sorts Δ θ t c fs v po h m = parts_as Δ θ (core t) c fs (seen v) po (looks_behind Δ θ t (core t) v refl h) m

-- and there is one list of them
pub parts_same : (Δ : Declarations) (s : Ty) (c : Ctor) (fs gs : Tys) → PartsOf Δ s c fs → PartsOf Δ s c gs → fs ≡ gs
parts_same Δ (tuple ts) Tuple fs gs p q = sym p ∙ q
parts_same Δ (adt d rs ts) (Variant e k) fs gs (as_, same, some, inst) (bs, same2, some2, inst2) = sym inst ∙ ap (instances ts) (some_same (sym some ∙ some2)) ∙ inst2
parts_same Δ s c fs gs p q = absurd p

-- ---- lists of sorts

abbrev pub LooksAll : Declarations → Values → Tys → Type 0
LooksAll Δ vs no_tys = vs ≡ no_values
LooksAll Δ vs (and_ty t ts) = (v : Value) × (us : Values) × (vs ≡ and_value v us) × HasSort Δ v t × HaveSorts Δ us ts

pub looks_all : (Δ : Declarations) (vs : Values) (ts : Tys) → HaveSorts Δ vs ts → LooksAll Δ vs ts
looks_all Δ vs ts of_none = refl
looks_all Δ vs ts (of_more {v} {vs = us} {t} {ts = rest} h g) = (v, us, refl, h, g)

-- an integer of the kind
pub looks_integer : (Δ : Declarations) (θ : Tys) (k : Option IntKind) (u : Value) → Looks Δ u (core (instance θ (integers k))) → (z : ℤ) × (u ≡ Number z) × (is_integer k z ≡ true)
looks_integer Δ θ None u (z, e) = (z, e, refl)
looks_integer Δ θ (Some k) u l = l
