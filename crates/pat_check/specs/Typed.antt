-- Patterns of a type, and the patterns that cover a type (Rust Reference, "Patterns" and "Match expressions").
use Rattle.std.specs.Prelude.{◌≡◌, ℕ, suc, ℤ, Bool, true, false, ◌||◌, Option, Some, None, List, [], ◌∷◌}
use Rattle.source_kinds.specs.declared.kinds.IntKind.{IntKind}
use Rattle.source_kinds.specs.Range.{fits}
use Rattle.logic_term.specs.declared.declaration.AdtDecl.{AdtDecl}
use Rattle.logic_term.specs.declared.kinds.Ctor.{Ctor}
use Rattle.logic_term.specs.declared.kinds.Ctor.TheVariants.{Tuple, Variant}
use Rattle.logic_term.specs.Ty.{Ty, Tys, int, bool, math_int, tuple, adt, boxed, shared, unique, param, closure, viewed, snapshot, no_tys, and_ty}
use Rattle.logic_term.specs.Value.{Value}
use Rattle.logic_term.specs.Sort.{Declarations, HasSort, instance, instances}
use Rattle.logic_term.specs.Theory.{declared}
use Rattle.logic_term.specs.Pattern.{Pat, Pats, wild, bound, literal, truth, shape, no_pats, and_pat}
use Rattle.logic_term.specs.Matches.{matches}

-- the fields of the variants of these declared types
abbrev pub fields_in : List AdtDecl → Declarations
fields_in ds = declared (record { adts = ds })

-- the type behind boxes, references and snapshots
abbrev pub core : Ty → Ty
core (boxed t) = core t
core (shared r t) = core t
core (unique r t) = core t
core (snapshot t) = core t
core (int k) = int k
core bool = bool
core math_int = math_int
core (tuple ts) = tuple ts
core (adt d rs ts) = adt d rs ts
core (param n) = param n
core (closure n ts cs k ps r) = closure n ts cs k ps r
core (viewed t) = viewed t

-- the integers of this kind: of a machine type, or all
abbrev pub integers : Option IntKind → Ty
integers None = math_int
integers (Some k) = int k

abbrev pub is_integer : Option IntKind → ℤ → Bool
is_integer None z = true
is_integer (Some k) z = fits k z

-- a value of the type that is made so has parts of these types
abbrev pub PartsOf : Declarations → Ty → Ctor → Tys → Type 0
PartsOf Δ (tuple ts) Tuple fs = ts ≡ fs
PartsOf Δ (adt d rs ts) (Variant e k) fs = (gs : Tys) × (d ≡ e) × (Δ d k ≡ Some gs) × (instances ts gs ≡ fs)
PartsOf Δ t c fs = ⊥

abbrev pub count_tys : Tys → ℕ
count_tys no_tys = 0
count_tys (and_ty t ts) = suc (count_tys ts)

-- a literal stands at an integer type that has it, a constructor at a tuple or a declared type, and each part at its type
abbrev mutual
  pub IsPat : Declarations → Pat → Ty → Type 0
  IsPat Δ (wild s) t = Unit {0}
  IsPat Δ (bound s x m) t = Unit {0}
  IsPat Δ (literal s k z) t = (core t ≡ integers k) × (is_integer k z ≡ true)
  IsPat Δ (truth s b) t = core t ≡ bool
  IsPat Δ (shape s c ps) t = (fs : Tys) × PartsOf Δ (core t) c fs × ArePats Δ ps fs

  pub ArePats : Declarations → Pats → Tys → Type 0
  ArePats Δ no_pats no_tys = Unit {0}
  ArePats Δ (and_pat p ps) (and_ty t ts) = IsPat Δ p t × ArePats Δ ps ts
  ArePats Δ _ _ = ⊥

-- each of the patterns is one of the type
abbrev pub AllPats : Declarations → List Pat → Ty → Type 0
AllPats Δ [] t = Unit {0}
AllPats Δ (p ∷ ps) t = IsPat Δ p t × AllPats Δ ps t

-- some pattern matches
abbrev pub some_match : List Pat → Value → Bool
some_match [] v = false
some_match (p ∷ ps) v = matches p v || some_match ps v

-- each value of the type is matched, whatever types stand for the type parameters
abbrev pub Covers : Declarations → List Pat → Ty → Type 0
Covers Δ ps t = (θ : Tys) (v : Value) → HasSort Δ v (instance θ t) → some_match ps v ≡ true
