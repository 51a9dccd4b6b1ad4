-- Types whose values a program may use so far: those that are Copy and hold no references. Nothing tells yet where a value is used after it was moved
-- (Rust Reference, "Move and copy types").
use Rattle.std.specs.Prelude.{◌≡◌, ◌==◌, ◌&&◌, Bool, true, false, List, [], ◌∷◌, Option, Some, None, slice_get}
use Rattle.logic_term.specs.declared.declaration.AdtDecl.{AdtDecl}
use Rattle.logic_term.specs.Ty.{Ty, Tys, int, bool, math_int, tuple, adt, boxed, param, no_tys, and_ty}
use Rattle.type_check.specs.TypedExpr.{TypedExpr, part}
use Rattle.runnable.specs.CopyDecided.{is_copied}

-- a declared type without lifetimes, which can hold no references
abbrev pub has_no_lifetimes : Option AdtDecl → Bool
has_no_lifetimes None = false
has_no_lifetimes (Some d) = d.regions == 0

-- the type holds no references, where the types for its type parameters do not
abbrev mutual
  pub is_owned : List AdtDecl → Ty → Bool
  is_owned ds (int k) = true
  is_owned ds bool = true
  is_owned ds math_int = true
  is_owned ds (tuple ts) = are_owned ds ts
  is_owned ds (adt d rs ts) = has_no_lifetimes (slice_get ds d.0) && are_owned ds ts
  is_owned ds (boxed t) = is_owned ds t
  is_owned ds (param n) = true
  is_owned ds _ = false

  pub are_owned : List AdtDecl → Tys → Bool
  are_owned ds no_tys = true
  are_owned ds (and_ty t ts) = is_owned ds t && are_owned ds ts

abbrev pub runs : List AdtDecl → Ty → Bool
runs ds t = is_copied ds t && is_owned ds t

abbrev pub all_run : List AdtDecl → List Ty → Bool
all_run ds [] = true
all_run ds (t ∷ ts) = runs ds t && all_run ds ts

abbrev pub Runs : List AdtDecl → Ty → Type 0
Runs ds t = runs ds t ≡ true

abbrev pub AllRun : List AdtDecl → List Ty → Type 0
AllRun ds [] = Unit {0}
AllRun ds (t ∷ ts) = Runs ds t × AllRun ds ts

-- the expression names a part of a value
abbrev pub is_part : TypedExpr → Bool
is_part (part t s e n) = true
is_part e = false
