-- The sorts of parts of values, and what paths lead to.
use Rattle.std.proofs.Common.{◌≡◌, ◌∙◌, refl, ap, sym, ℕ, zero, suc, Bool, true, false, List, [], ◌∷◌, ◌++◌, map, Option, Some, None, slice_get}
use Rattle.std.specs.Prelude.{if◌then◌else◌}
use Rattle.std.specs.Option.{option_map}
use Rattle.logic_term.specs.declared.declaration.AdtDecl.{AdtDecl}
use Rattle.logic_term.specs.declared.declaration.FieldDecl.{FieldDecl}
use Rattle.logic_term.specs.declared.declaration.VariantDecl.{VariantDecl}
use Rattle.logic_term.specs.declared.kinds.Ctor.{Ctor}
use Rattle.logic_term.specs.declared.kinds.Ctor.TheVariants.{Tuple, Variant, Closure}
use Rattle.logic_term.specs.Sort.{instances}
use Rattle.logic_term.specs.Sorted.{FieldSort, MadeSort, sort_at}
use Rattle.logic_term.specs.Theory.{Theory, field_ty, fields_of, variant_of}
use Rattle.logic_term.specs.Ty.{Ty, Tys, tuple, adt}
use Rattle.logic_term.specs.TyView.{tys_of}
use Rattle.mir_ir.specs.declared.place.Proj.{Proj}
use Rattle.mir_ir.specs.declared.place.Proj.TheVariants.{Field}
use Rattle.mir_ir.specs.Paths.{LeadsTo, at_end, in_field, in_box}
use Rattle.type_check.specs.WellTyped.{MakesOf, part_ty, field_at, struct_fields}
use Rattle.type_parts.specs.Parts.{only_fields}

-- ---- what parts make

pub made_sort : (ds : List AdtDecl) (k : Ctor) (ts : Tys) (t : Ty) → MakesOf ds k ts t → MadeSort (record { adts = ds }) k ts t
made_sort ds Tuple ts t h = h
made_sort ds (Variant d k) ts t h = ([], h.arguments, h.fields, h.is, h.declares, h.parts)
made_sort ds (Closure n) ts t h = h

-- ---- fields

-- the type of field n of a list, at these types for the parameters
abbrev nth_field : Tys → List FieldDecl → ℕ → Option Ty
nth_field ts fs n = option_map (field_at ts) (slice_get fs n)

field_at_place : (ts : Tys) (fs : List FieldDecl) (n : ℕ) (t : Ty) → nth_field ts fs n ≡ Some t → sort_at (instances ts (tys_of (map field_ty fs))) n ≡ Some t
field_at_place ts [] n t e = absurd (cc)
field_at_place ts (f ∷ fs) zero t e = e
field_at_place ts (f ∷ fs) (suc n) t e = field_at_place ts fs n t e

-- the declared type has one variant, of which field n has the type
abbrev IsOnly : Option AdtDecl → Tys → ℕ → Ty → Type 0
IsOnly o ts n s = (fs : Tys) × (fields_of (variant_of o 0) ≡ Some fs) × ((k : ℕ) (gs : Tys) → fields_of (variant_of o k) ≡ Some gs → k ≡ 0) × (sort_at (instances ts fs) n ≡ Some s)

first_alone : (v : VariantDecl) (k : ℕ) (gs : Tys) → fields_of (slice_get (v ∷ []) k) ≡ Some gs → k ≡ 0
first_alone v zero gs e = refl
first_alone v (suc k) gs e = absurd (cc)

module _ (d : AdtDecl) (ts : Tys) (n : ℕ) (t : Ty) where
  in_variants : (vs : List VariantDecl) → d.variants ≡ vs → nth_field ts (only_fields vs) n ≡ Some t → IsOnly (Some d) ts n t
  in_variants [] e h = absurd (cc)
  in_variants (v ∷ []) e h = (
    tys_of (map field_ty v.fields),
    ap (λ (us : List VariantDecl). fields_of (slice_get us 0)) e,
    λ k gs f. first_alone v k gs (ap (λ (us : List VariantDecl). fields_of (slice_get us k)) (sym e) ∙ f),
    field_at_place ts v.fields n t h,
  )
  in_variants (v ∷ w ∷ vs) e h = absurd (cc)

  if_struct : (b : Bool) → nth_field ts (if b then only_fields d.variants else []) n ≡ Some t → IsOnly (Some d) ts n t
  if_struct true h = in_variants d.variants refl h
  if_struct false h = absurd (cc)

in_declared : (o : Option AdtDecl) (ts : Tys) (n : ℕ) (t : Ty) → nth_field ts (struct_fields o) n ≡ Some t → IsOnly o ts n t
in_declared None ts n t h = absurd (cc)
in_declared (Some d) ts n t h = if_struct d ts n t d.is_struct h

-- a part has its sort
pub part_sort : (ds : List AdtDecl) (u : Ty) (n : ℕ) (t : Ty) → part_ty ds u n ≡ Some t → FieldSort (record { adts = ds }) u n t
part_sort ds (tuple ts) n t h = h
part_sort ds (adt d rs ts) n t h = in_declared (slice_get ds d.0) ts n t h
part_sort ds _ n t h = absurd (cc)

-- ---- paths

-- one field further
pub leads_further : (Θ : Theory) (u : Ty) (path : List Proj) (t : Ty) (n : ℕ) (v : Ty) → LeadsTo Θ u path t → FieldSort Θ t n v → LeadsTo Θ u (path ++ Field n ∷ []) v
leads_further Θ u path t n v at_end f = in_field f at_end
leads_further Θ u path t n v (in_field g p) f = in_field g (leads_further Θ _ _ t n v p f)
leads_further Θ u path t n v (in_box p) f = in_box (leads_further Θ _ _ t n v p f)
