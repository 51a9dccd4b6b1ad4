-- Which declared types are accepted, and where the first that is not is refused: in the order of their numbers, of each the types of its fields
-- in order, and then the type itself.
use Rattle.std.specs.Prelude.{◌≡◌, ℕ, ◌<◌, List, [], ◌∷◌, ◌++◌, Some, None, slice_get, ◌⊎◌}
use Rattle.text_core.specs.declared.refusal.Code.TheVariants.{E09, E10}
use Rattle.text_core.specs.declared.refusal.SourceError.{SourceError}
use Rattle.text_core.specs.declared.span.Span.{Span}
use Rattle.logic_term.specs.declared.declaration.AdtDecl.{AdtDecl}
use Rattle.logic_term.specs.declared.declaration.FieldDecl.{FieldDecl}
use Rattle.logic_term.specs.declared.declaration.VariantDecl.{VariantDecl}
use Rattle.rs_types.specs.Endless.{IsBounded, IsEndless}
use Rattle.rs_types.specs.Growing.{declared_by}
use Rattle.rs_types.specs.Inhabited.{IsInhabited, IsEmpty}
use Rattle.rs_types.specs.Nesting.{IsFlat, IsNested}

-- E09, at the type of a field
abbrev pub nested_reference : Span → SourceError
nested_reference s = record { code = E09; span = s; other = None }

-- E10, at the name of the declared type
abbrev pub recursive : Span → SourceError
recursive s = record { code = E10; span = s; other = None }

-- the fields of all variants
abbrev pub all_fields : List VariantDecl → List FieldDecl
all_fields [] = []
all_fields (v ∷ vs) = v.fields ++ all_fields vs

abbrev pub AreFlat : List AdtDecl → List FieldDecl → Type 0
AreFlat ds [] = Unit {0}
AreFlat ds (f ∷ fs) = IsFlat (declared_by ds) f.ty × AreFlat ds fs

-- no field's type has a reference in a reference, no endless chain of fields without a box begins at the type, and it has a value where
-- its type arguments have
pub record IsGood (ds : List AdtDecl) (d : ℕ) (c : AdtDecl) : Type 0 where
  pub flat : AreFlat ds (all_fields c.variants)
  pub bounded : IsBounded ds d
  pub inhabited : IsInhabited ds d

pub record AreAccepted (ds : List AdtDecl) : Type 0 where
  pub good : (d : ℕ) (c : AdtDecl) → slice_get ds d ≡ Some c → IsGood ds d c

-- the first of these fields in whose type a reference stands in a reference is refused at that type
pub data IsNestedAmong (ds : List AdtDecl) : List FieldDecl → SourceError → Type 0 where
  nested_first : {f : FieldDecl} {fs : List FieldDecl} → IsNested (declared_by ds) f.ty → IsNestedAmong ds (f ∷ fs) (nested_reference f.span)
  nested_later : {f : FieldDecl} {fs : List FieldDecl} {e : SourceError} → IsFlat (declared_by ds) f.ty → IsNestedAmong ds fs e → IsNestedAmong ds (f ∷ fs) e

-- what the declared type is refused for
pub data IsRefusal (ds : List AdtDecl) (d : ℕ) (c : AdtDecl) : SourceError → Type 0 where
  refused_field : {e : SourceError} → IsNestedAmong ds (all_fields c.variants) e → IsRefusal ds d c e
  refused_type : AreFlat ds (all_fields c.variants) → IsEndless ds d ⊎ IsEmpty ds d → IsRefusal ds d c (recursive c.span)

pub record IsFirstRefusal (ds : List AdtDecl) (e : SourceError) : Type 0 where
  pub number : ℕ
  pub decl : AdtDecl
  pub there : slice_get ds number ≡ Some decl
  pub refused : IsRefusal ds number decl e
  pub before : (b : ℕ) (c : AdtDecl) → b < number → slice_get ds b ≡ Some c → IsGood ds b c
