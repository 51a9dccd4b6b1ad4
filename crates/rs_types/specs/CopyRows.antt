-- Which types are Copy by what is known of the declared types.
use Rattle.std.specs.Prelude.{◌≡◌, ◌↔◌, ℕ, suc, ◌<◌, ◌==◌, ◌&&◌, ◌||◌, not, Bool, true, false, IsTrue, List, [], ◌∷◌, get_or, length, Option, Some, None, slice_get, if◌then◌else◌}
use Rattle.logic_term.specs.Ty.{Ty, Tys, int, bool, math_int, tuple, adt, boxed, shared, unique, param, closure, viewed, snapshot, no_tys, and_ty}
use Rattle.logic_term.specs.declared.declaration.AdtDecl.{AdtDecl}
use Rattle.logic_term.specs.declared.declaration.VariantDecl.{VariantDecl}
use Rattle.rs_types.specs.declared.copy_rows.Assumed.{Assumed}
use Rattle.rs_types.specs.declared.copy_rows.Assumed.TheVariants.{Nothing, Everything, AllBut}
use Rattle.rs_types.specs.declared.copy_rows.CopyRow.{CopyRow}
use Rattle.rs_types.specs.Copied.{IsCopy}
use Rattle.rs_types.specs.Growing.{variant_width}
use Rattle.rs_types.specs.Holding.{none}
use Rattle.rs_types.specs.Weighing.{field_types}

-- ---- which type parameters count as Copy

abbrev pub all : ℕ → Bool
all n = true

abbrev pub all_but : ℕ → ℕ → Bool
all_but m n = not (n == m)

abbrev pub counted : Assumed → ℕ → Bool
counted Nothing n = false
counted Everything n = true
counted (AllBut m) n = not (n == m)

-- ---- types by the rows

-- of a type of which nothing is known
abbrev pub no_row : CopyRow
no_row = record { copy = false; needed = [] }

abbrev pub row_at : List CopyRow → ℕ → CopyRow
row_at rows d = get_or rows d no_row

abbrev pub none_needed : List Bool → Bool
none_needed [] = true
none_needed (b ∷ needed) = not b && none_needed needed

-- a declared type is where its row says so and the arguments are that it needs; p: which type parameters count as Copy
abbrev mutual
  pub copies : List CopyRow → (ℕ → Bool) → Ty → Bool
  copies rows p (int k) = true
  copies rows p bool = true
  copies rows p math_int = false
  copies rows p (tuple ts) = all_copy rows p ts
  copies rows p (adt d rs ts) = (row_at rows d.0).copy && needed_copy rows p (row_at rows d.0).needed ts
  copies rows p (boxed t) = false
  copies rows p (shared r t) = true
  copies rows p (unique r t) = false
  copies rows p (param n) = p n
  copies rows p (closure n ts cs k ps r) = false
  copies rows p (viewed t) = false
  copies rows p (snapshot t) = true

  pub all_copy : List CopyRow → (ℕ → Bool) → Tys → Bool
  all_copy rows p no_tys = true
  all_copy rows p (and_ty t ts) = copies rows p t && all_copy rows p ts

  -- an argument that is needed and is not there is none
  pub needed_copy : List CopyRow → (ℕ → Bool) → List Bool → Tys → Bool
  needed_copy rows p needed no_tys = none_needed needed
  needed_copy rows p [] (and_ty t ts) = true
  needed_copy rows p (b ∷ needed) (and_ty t ts) = (not b || copies rows p t) && needed_copy rows p needed ts

-- the fields of all these variants are
abbrev pub variants_copy : List CopyRow → (ℕ → Bool) → List VariantDecl → Bool
variants_copy rows p [] = true
variants_copy rows p (v ∷ vs) = all_copy rows p (field_types v) && variants_copy rows p vs

-- ---- the next row

-- the type derives Copy and its fields are by the rows, where all its type parameters count; and that is not known yet
abbrev pub is_new : List CopyRow → ℕ → Option AdtDecl → Bool
is_new rows d None = false
is_new rows d (Some c) = not (row_at rows d).copy && (c.copy && variants_copy rows all c.variants)

abbrev pub new_at : List AdtDecl → List CopyRow → ℕ → Bool
new_at ds rows d = is_new rows d (slice_get ds d)

-- without which type parameters the fields are not
pub record AreNeeded (rows : List CopyRow) (vs : List VariantDecl) (needed : List Bool) : Type 0 where
  pub long : length needed ≡ variant_width vs
  pub each : (n : ℕ) → n < length needed → get_or needed n false ≡ not (variants_copy rows (all_but n) vs)

-- of how many types it is not known
abbrev pub unknown : List CopyRow → ℕ
unknown [] = 0
unknown (r ∷ rows) = if r.copy then unknown rows else suc (unknown rows)

-- ---- in the end

-- the rows decide which types are Copy
abbrev pub Decide : List AdtDecl → List CopyRow → Type 0
Decide ds rows = (t : Ty) → IsTrue (copies rows none t) ↔ IsCopy ds t
