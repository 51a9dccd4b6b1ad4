-- Types that hold themselves in boxes alone (Rust Reference, "Recursive types").
use Rattle.std.specs.Prelude.{◌≡◌, ℕ, zero, suc, ◌<◌, Bool, true, Some, List}
use Rattle.logic_term.specs.declared.kinds.AdtId.{AdtId}
use Rattle.logic_term.specs.declared.kinds.Region.{Region}
use Rattle.source_kinds.specs.declared.kinds.IntKind.{IntKind}
use Rattle.logic_term.specs.declared.kinds.FnKind.{FnKind}
use Rattle.logic_term.specs.Ty.{Ty, Tys, int, bool, math_int, tuple, adt, boxed, shared, unique, param, closure, viewed, snapshot, no_tys, and_ty}
use Rattle.logic_term.specs.Sort.{Declarations, instances}

-- ---- what a type holds other than in a box

-- There is no endless chain of types in which each holds the next other than in a box: a type is bounded where all that
-- it so holds are. A type parameter holds nothing.
mutual
  pub data Bounded (Δ : Declarations) : Ty → Type 0 where
    int_bounded : {k : IntKind} → Bounded Δ (int k)
    bool_bounded : Bounded Δ bool
    math_bounded : Bounded Δ math_int
    param_bounded : {n : ℕ} → Bounded Δ (param n)
    viewed_bounded : {t : Ty} → Bounded Δ (viewed t)
    closure_bounded : {n : ℕ} {ts cs ps : Tys} {k : FnKind} {r : Ty} → Bounded Δ (closure n ts cs k ps r)
    boxed_bounded : {t : Ty} → Bounded Δ (boxed t)
    shared_bounded : {r : Region} {t : Ty} → Bounded Δ t → Bounded Δ (shared r t)
    unique_bounded : {r : Region} {t : Ty} → Bounded Δ t → Bounded Δ (unique r t)
    snapshot_bounded : {t : Ty} → Bounded Δ t → Bounded Δ (snapshot t)
    tuple_bounded : {ts : Tys} → AllBounded Δ ts → Bounded Δ (tuple ts)
    adt_bounded : {d : AdtId} {rs : List Region} {ts : Tys} → ((k : ℕ) (fs : Tys) → Δ d k ≡ Some fs → AllBounded Δ (instances ts fs)) → Bounded Δ (adt d rs ts)

  pub data AllBounded (Δ : Declarations) : Tys → Type 0 where
    none_bounded : AllBounded Δ no_tys
    more_bounded : {t : Ty} {ts : Tys} → Bounded Δ t → AllBounded Δ ts → AllBounded Δ (and_ty t ts)

-- the type parameters from n on, m of them
abbrev pub params_from : ℕ → ℕ → Tys
params_from zero n = no_tys
params_from (suc m) n = and_ty (param n) (params_from m (suc n))

-- ---- ranks

-- Of a field's type f of a declared type of rank r: those that it holds have lower ranks, and of its type parameters it
-- holds those in P. An argument counts where the parameter for which it stands is held.
abbrev mutual
  pub Below : (AdtId → ℕ) → (AdtId → ℕ → Bool) → ℕ → (ℕ → Bool) → Ty → Type 0
  Below rank held r P (int k) = Unit {0}
  Below rank held r P bool = Unit {0}
  Below rank held r P math_int = Unit {0}
  Below rank held r P (tuple ts) = AllBelow rank held r P ts
  Below rank held r P (adt d rs ts) = (rank d < r) × ArgumentsBelow rank held r P (held d) ts
  Below rank held r P (boxed t) = Unit {0}
  Below rank held r P (shared x t) = Below rank held r P t
  Below rank held r P (unique x t) = Below rank held r P t
  Below rank held r P (param n) = P n ≡ true
  Below rank held r P (closure n ts cs k ps t) = Unit {0}
  Below rank held r P (viewed t) = Unit {0}
  Below rank held r P (snapshot t) = Below rank held r P t

  pub AllBelow : (AdtId → ℕ) → (AdtId → ℕ → Bool) → ℕ → (ℕ → Bool) → Tys → Type 0
  AllBelow rank held r P no_tys = Unit {0}
  AllBelow rank held r P (and_ty t ts) = Below rank held r P t × AllBelow rank held r P ts

  pub ArgumentsBelow : (AdtId → ℕ) → (AdtId → ℕ → Bool) → ℕ → (ℕ → Bool) → (ℕ → Bool) → Tys → Type 0
  ArgumentsBelow rank held r P Q no_tys = Unit {0}
  ArgumentsBelow rank held r P Q (and_ty t ts) = (Q 0 ≡ true → Below rank held r P t) × ArgumentsBelow rank held r P (λ n. Q (suc n)) ts

abbrev pub AreRanked : Declarations → (AdtId → ℕ) → (AdtId → ℕ → Bool) → Type 0
AreRanked Δ rank held = (d : AdtId) (k : ℕ) (fs : Tys) → Δ d k ≡ Some fs → AllBelow rank held (rank d) (held d) fs
