-- What holds of all written patterns.
use Rattle.std.specs.Prelude.{◌≡◌, ℕ, false, List, [], ◌∷◌, Some, Ok, slice_get}
use Rattle.text_core.specs.declared.name.Name.{Name}
use Rattle.logic_term.specs.declared.declaration.AdtDecl.{AdtDecl}
use Rattle.logic_term.specs.declared.pattern.BindingKind.{BindingKind}
use Rattle.logic_term.specs.Pattern.{Pat, Pats, wild, bound, literal, truth, shape, no_pats, and_pat}
use Rattle.logic_term.specs.Ty.{Ty}
use Rattle.source_trees.specs.Pat.{Pat as Written}
use Rattle.pat_check.specs.Typed.{IsPat, fields_in}
use Rattle.pat_types.specs.declared.names.BoundName.{BoundName}
use Rattle.pat_types.specs.PatternTyping.{bound_ty, is_bound, pattern_typed}

-- what a written pattern comes to at a type is a pattern of the type, of which `pat_check` says which values it matches
abbrev pub TypedPatternsFit : Type 0
TypedPatternsFit = (ds : List AdtDecl) (p : Written) (t : Ty) (a : Pat × List BoundName) → pattern_typed ds p t ≡ Ok a → IsPat (fields_in ds) a.0 t

-- ---- names

-- no name is bound twice
abbrev pub AreDistinct : List BoundName → Type 0
AreDistinct [] = Unit {0}
AreDistinct (x ∷ xs) = (is_bound x.name xs ≡ false) × AreDistinct xs

-- a name that is bound so to a value of the type is among these, with the type of its variable
abbrev pub IsAmong : List BoundName → Ty → Name → BindingKind → Type 0
IsAmong xs t x k = (y : BoundName) × (i : ℕ) × (slice_get xs i ≡ Some y) × (y.name ≡ x) × (y.ty ≡ bound_ty k t)

-- each name that the pattern binds is among these
abbrev mutual
  pub BindsAmong : List BoundName → Pat → Type 0
  BindsAmong xs (wild t) = Unit {0}
  BindsAmong xs (bound t x k) = IsAmong xs t x k
  BindsAmong xs (literal t k z) = Unit {0}
  BindsAmong xs (truth t b) = Unit {0}
  BindsAmong xs (shape t c ps) = AllBindAmong xs ps

  pub AllBindAmong : List BoundName → Pats → Type 0
  AllBindAmong xs no_pats = Unit {0}
  AllBindAmong xs (and_pat p ps) = BindsAmong xs p × AllBindAmong xs ps

abbrev pub NamesAreDistinct : Type 0
NamesAreDistinct = (ds : List AdtDecl) (p : Written) (t : Ty) (a : Pat × List BoundName) → pattern_typed ds p t ≡ Ok a → AreDistinct a.1

abbrev pub NamesAreListed : Type 0
NamesAreListed = (ds : List AdtDecl) (p : Written) (t : Ty) (a : Pat × List BoundName) → pattern_typed ds p t ≡ Ok a → BindsAmong a.1 a.0

-- a pattern without parts binds its own name and no other, with the type of its variable at a value of this type, or none
abbrev pub BindsAlone : Ty → Pat → List BoundName → Type 0
BindsAlone t (wild u) xs = xs ≡ []
BindsAlone t (bound u x k) xs = (y : BoundName) × (xs ≡ y ∷ []) × (y.ty ≡ bound_ty k t)
BindsAlone t (literal u k z) xs = xs ≡ []
BindsAlone t (truth u b) xs = xs ≡ []
BindsAlone t (shape u c ps) xs = Unit {0}

abbrev pub NamesStandAlone : Type 0
NamesStandAlone = (ds : List AdtDecl) (p : Written) (t : Ty) (a : Pat × List BoundName) → pattern_typed ds p t ≡ Ok a → BindsAlone t a.0 a.1
