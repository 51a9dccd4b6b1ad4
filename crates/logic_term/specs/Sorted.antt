-- Sorts of terms, at what a program declares. A term is checked against a sort, since what makes a value of parts does not always say of which
-- type it is one (Pierce and Turner 2000, checking).
use Rattle.std.specs.Prelude.{◌≡◌, ◌⊎◌, ◌==◌, ℕ, zero, suc, true, List, cond, Option, Some, None}
use Rattle.text_core.specs.declared.name.Name.{Name}
use Rattle.source_kinds.specs.declared.kinds.IntKind.{IntKind}
use Rattle.source_kinds.specs.Range.{fits}
use Rattle.logic_term.specs.declared.kinds.Ctor.{Ctor}
use Rattle.logic_term.specs.declared.kinds.Ctor.TheVariants.{Tuple, Variant, Closure}
use Rattle.logic_term.specs.declared.kinds.Region.{Region}
use Rattle.logic_term.specs.Meaning.{Sure, Env, Means, structure_of}
use Rattle.logic_term.specs.Sort.{HasSort, instance, instances}
use Rattle.logic_term.specs.Term.{Operator, modeled, negated, denied, field, arith, less, at_most, equal, both, either, implied, choice, made, Term, Terms, var, lit, truth, apply, bind, no_terms, and_term}
use Rattle.logic_term.specs.Theory.{Theory, declared}
use Rattle.logic_term.specs.Ty.{Ty, Tys, int, bool, math_int, tuple, adt, no_tys, and_ty}
use Rattle.logic_term.specs.Value.{Value}

-- the sorts of variables
abbrev pub Scope : Type 0
Scope = Name → Option Ty

abbrev pub no_scope : Scope
no_scope x = None

abbrev pub with_sort : Scope → Name → Ty → Scope
with_sort Γ x s y = cond (y.0 == x.0) (Some s) (Γ y)

abbrev pub one_ty : Ty → Tys
one_ty a = and_ty a no_tys

abbrev pub two_tys : Ty → Ty → Tys
two_tys a b = and_ty a (and_ty b no_tys)

-- parts of sorts ss make a value of sort s; what a closure captures has no written sorts
abbrev pub MadeSort : Theory → Ctor → Tys → Ty → Type 0
MadeSort Θ Tuple ss s = s ≡ tuple ss
MadeSort Θ (Variant d k) ss s = (rs : List Region) × (ts : Tys) × (fs : Tys) × (s ≡ adt d rs ts) × (declared Θ d k ≡ Some fs) × (ss ≡ instances ts fs)
MadeSort Θ (Closure n) ss s = ⊥

abbrev pub sort_at : Tys → ℕ → Option Ty
sort_at no_tys n = None
sort_at (and_ty t ts) zero = Some t
sort_at (and_ty t ts) (suc n) = sort_at ts n

-- part n of a value of sort r has sort s: of a tuple, or of a declared type whose one variant is the first
abbrev pub FieldSort : Theory → Ty → ℕ → Ty → Type 0
FieldSort Θ (tuple ts) n s = sort_at ts n ≡ Some s
FieldSort Θ (adt d rs ts) n s = (fs : Tys) × (declared Θ d 0 ≡ Some fs) × ((k : ℕ) (gs : Tys) → declared Θ d k ≡ Some gs → k ≡ 0) × (sort_at (instances ts fs) n ≡ Some s)
FieldSort Θ _ n s = ⊥

-- the operator takes arguments of sorts ss to a value of sort s
abbrev pub OperatorSort : Theory → Operator → Tys → Ty → Type 0
OperatorSort Θ modeled ss s = (k : IntKind) × (ss ≡ one_ty (int k)) × (s ≡ math_int)
OperatorSort Θ negated ss s = (ss ≡ one_ty math_int) × (s ≡ math_int)
OperatorSort Θ denied ss s = (ss ≡ one_ty bool) × (s ≡ bool)
OperatorSort Θ (field n) ss s = (r : Ty) × (ss ≡ one_ty r) × FieldSort Θ r n s
OperatorSort Θ (arith op) ss s = (ss ≡ two_tys math_int math_int) × (s ≡ math_int)
OperatorSort Θ less ss s = (ss ≡ two_tys math_int math_int) × (s ≡ bool)
OperatorSort Θ at_most ss s = (ss ≡ two_tys math_int math_int) × (s ≡ bool)
OperatorSort Θ equal ss s = (r : Ty) × (ss ≡ two_tys r r) × (s ≡ bool)
OperatorSort Θ both ss s = (ss ≡ two_tys bool bool) × (s ≡ bool)
OperatorSort Θ either ss s = (ss ≡ two_tys bool bool) × (s ≡ bool)
OperatorSort Θ implied ss s = (ss ≡ two_tys bool bool) × (s ≡ bool)
OperatorSort Θ choice ss s = ss ≡ and_ty bool (two_tys s s)
OperatorSort Θ (made c) ss s = MadeSort Θ c ss s

abbrev mutual
  pub Sorted : Theory → Scope → Term → Ty → Type 0
  Sorted Θ Γ (var x) s = Γ x ≡ Some s
  Sorted Θ Γ (lit z t) s = (s ≡ t) × ((t ≡ math_int) ⊎ ((k : IntKind) × (t ≡ int k) × (fits k z ≡ true)))
  Sorted Θ Γ (truth b) s = s ≡ bool
  Sorted Θ Γ (apply op ts) s = (ss : Tys) × OperatorSort Θ op ss s × AllSorted Θ Γ ts ss
  Sorted Θ Γ (bind q x r t) s = (s ≡ bool) × Sorted Θ (with_sort Γ x r) t bool

  pub AllSorted : Theory → Scope → Terms → Tys → Type 0
  AllSorted Θ Γ no_terms ss = ss ≡ no_tys
  AllSorted Θ Γ (and_term t ts) ss = (r : Ty) × (rs : Tys) × (ss ≡ and_ty r rs) × Sorted Θ Γ t r × AllSorted Θ Γ ts rs

-- each variable has a value of its sort, at these types for the type parameters
abbrev pub FitsScope : Theory → Tys → Scope → Env → Type 0
FitsScope Θ θ Γ ρ = (x : Name) (s : Ty) → Γ x ≡ Some s → HasSort (declared Θ) (ρ x) (instance θ s)

-- where variables have values of their sorts, a term's value has the term's sort
abbrev pub SortsAreKept : Type 0
SortsAreKept = (Θ : Theory) (θ : Tys) (Γ : Scope) (ρ : Env) (t : Term) (s : Ty) → Sorted Θ Γ t s → FitsScope Θ θ Γ ρ
    → (v : Value) → Means (structure_of Θ θ) t ρ v → Sure (HasSort (declared Θ) v (instance θ s))
