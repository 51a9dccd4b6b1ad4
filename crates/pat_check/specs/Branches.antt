-- The answers of a test: a value of which something is known agrees with what is known after one of them. A declared type
-- has one for each variant, in their order; of an integer the answers are that it is the literal and that it is another,
-- where there is another.
use Rattle.std.specs.Prelude.{◌≡◌, ℕ, suc, ℤ, true, false, ◌⊎◌, Option, Some, None, List, [], ◌∷◌, map, slice_get}
use Rattle.source_kinds.specs.declared.kinds.IntKind.{IntKind}
use Rattle.logic_term.specs.declared.declaration.AdtDecl.{AdtDecl}
use Rattle.logic_term.specs.declared.declaration.VariantDecl.{VariantDecl}
use Rattle.logic_term.specs.declared.kinds.AdtId.{AdtId}
use Rattle.logic_term.specs.declared.kinds.Ctor.TheVariants.{Tuple, Variant, Closure}
use Rattle.logic_term.specs.declared.pattern.PatStep.{PatStep}
use Rattle.logic_term.specs.Ty.{Tys}
use Rattle.logic_term.specs.TyView.{tys_of}
use Rattle.logic_term.specs.Theory.{field_ty}
use Rattle.pat_check.specs.declared.test.Test.{Test}
use Rattle.pat_check.specs.declared.test.Test.TheVariants as by
use Rattle.pat_check.specs.Known.{Known, other, number, flag, built, all_anything, known_at, put, excluded}
use Rattle.pat_check.specs.KnownTypes.{SomeLeft, AllAmong}
use Rattle.pat_check.specs.Typed.{count_tys}

abbrev pub variants_in : Option AdtDecl → List VariantDecl
variants_in None = []
variants_in (Some d) = d.variants

abbrev pub field_tys : VariantDecl → Tys
field_tys v = tys_of (map field_ty v.fields)

-- the types of the fields of each variant of a declared type
abbrev pub field_lists : List AdtDecl → AdtId → List Tys
field_lists ds d = map field_tys (variants_in (slice_get ds d.0))

-- of the variants from j on
abbrev pub variant_branches : Known → List PatStep → AdtId → ℕ → List Tys → List Known
variant_branches k q d j [] = []
variant_branches k q d j (fs ∷ fss) = put k q (built (Variant d j) (all_anything (count_tys fs))) ∷ variant_branches k q d (suc j) fss

abbrev pub AreIntegerBranches : Known → List PatStep → Option IntKind → ℤ → List ℤ → List Known → Type 0
AreIntegerBranches k q i z zs ks = (AllAmong i zs × (ks ≡ put k q (number z) ∷ [])) ⊎ (SomeLeft i zs × (ks ≡ put k q (number z) ∷ put k q (other i zs) ∷ []))

abbrev pub AreBranches : List AdtDecl → Known → List PatStep → Test → List Known → Type 0
AreBranches ds k q (by.Made Tuple n) ks = ks ≡ put k q (built Tuple (all_anything n)) ∷ []
AreBranches ds k q (by.Made (Variant d j) n) ks = ks ≡ variant_branches k q d 0 (field_lists ds d)
AreBranches ds k q (by.Made (Closure c) n) ks = ks ≡ []
AreBranches ds k q (by.Number i z) ks = AreIntegerBranches k q i z (z ∷ excluded (known_at k q)) ks
AreBranches ds k q by.Truth ks = ks ≡ put k q (flag true) ∷ put k q (flag false) ∷ []
