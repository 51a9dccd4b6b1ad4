-- Which of its type parameters each declared type holds other than in a box, and what stands in a type by that.
use Rattle.std.specs.Prelude.{ℕ, suc, ◌&&◌, ◌||◌, max, Bool, false, List, [], ◌∷◌, get_or}
use Rattle.logic_term.specs.Ty.{Ty, Tys, int, bool, math_int, tuple, adt, boxed, shared, unique, param, closure, viewed, snapshot, no_tys, and_ty}
use Rattle.logic_term.specs.declared.declaration.FieldDecl.{FieldDecl}
use Rattle.logic_term.specs.declared.declaration.VariantDecl.{VariantDecl}

-- for each declared type, by its number, a row with the answer for each of its type parameters
abbrev pub Rows : Type 0
Rows = List (List Bool)

abbrev pub cell : Rows → ℕ → ℕ → Bool
cell rows d n = get_or (get_or rows d []) n false

-- a type parameter, or a declared type, of those that are wanted stands in the type other than in a box; an argument counts where the
-- parameter for which it stands is held
abbrev mutual
  pub stands : Rows → (ℕ → Bool) → (ℕ → Bool) → Ty → Bool
  stands rows p a (int k) = false
  stands rows p a bool = false
  stands rows p a math_int = false
  stands rows p a (tuple ts) = one_stands rows p a ts
  stands rows p a (adt d rs ts) = a d.0 || argument_stands rows p a (get_or rows d.0 []) ts
  stands rows p a (boxed t) = false
  stands rows p a (shared r t) = stands rows p a t
  stands rows p a (unique r t) = stands rows p a t
  stands rows p a (param n) = p n
  stands rows p a (closure n ts cs k ps r) = false
  stands rows p a (viewed t) = false
  stands rows p a (snapshot t) = stands rows p a t

  pub one_stands : Rows → (ℕ → Bool) → (ℕ → Bool) → Tys → Bool
  one_stands rows p a no_tys = false
  one_stands rows p a (and_ty t ts) = stands rows p a t || one_stands rows p a ts

  -- held: which of the arguments count
  pub argument_stands : Rows → (ℕ → Bool) → (ℕ → Bool) → List Bool → Tys → Bool
  argument_stands rows p a held no_tys = false
  argument_stands rows p a [] (and_ty t ts) = false
  argument_stands rows p a (h ∷ held) (and_ty t ts) = (h && stands rows p a t) || argument_stands rows p a held ts

-- in the type of a field
abbrev pub in_some_field : Rows → (ℕ → Bool) → (ℕ → Bool) → List FieldDecl → Bool
in_some_field rows p a [] = false
in_some_field rows p a (f ∷ fs) = stands rows p a f.ty || in_some_field rows p a fs

abbrev pub in_some_variant : Rows → (ℕ → Bool) → (ℕ → Bool) → List VariantDecl → Bool
in_some_variant rows p a [] = false
in_some_variant rows p a (v ∷ vs) = in_some_field rows p a v.fields || in_some_variant rows p a vs

-- nothing
abbrev pub none : ℕ → Bool
none n = false

-- one past the largest number of a type parameter that stands other than in a box
abbrev mutual
  pub width : Ty → ℕ
  width (tuple ts) = all_width ts
  width (adt d rs ts) = all_width ts
  width (shared r t) = width t
  width (unique r t) = width t
  width (param n) = suc n
  width (snapshot t) = width t
  width t = 0

  pub all_width : Tys → ℕ
  all_width no_tys = 0
  all_width (and_ty t ts) = max (width t) (all_width ts)
