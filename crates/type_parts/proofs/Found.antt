-- What is found is a part of that number and of that type.
use Rattle.std.proofs.Common.{◌≡◌, ◌∙◌, ℕ, zero, suc, ◌+◌, Bool, true, false, List, [], ◌∷◌, map, Option, Some, None, slice_get, refl, ap, sym, subst, arith}
use Rattle.std.specs.Prelude.{◌==◌, if◌then◌else◌}
use Rattle.text_core.specs.declared.name.Name.{Name}
use Rattle.logic_term.specs.declared.declaration.AdtDecl.{AdtDecl}
use Rattle.logic_term.specs.declared.declaration.FieldDecl.{FieldDecl}
use Rattle.logic_term.specs.declared.declaration.VariantDecl.{VariantDecl}
use Rattle.logic_term.specs.Sort.{instances}
use Rattle.logic_term.specs.Sorted.{sort_at}
use Rattle.logic_term.specs.Theory.{field_ty, fields_of, variant_of}
use Rattle.logic_term.specs.Ty.{Ty, Tys, tuple, adt}
use Rattle.logic_term.specs.TyView.{tys_of}
use Rattle.constructors.specs.FieldNames.{numbered}
use Rattle.type_parts.specs.Laws.{IsPart, FoundPartsHaveTheirSorts}
use Rattle.type_parts.specs.Parts.{only_fields, struct_fields, field_at, field_from, field_of, part_of, part_if, with_number}

-- ---- fields of a list

abbrev sorts_of : Tys → List FieldDecl → Tys
sorts_of ts fs = instances ts (tys_of (map field_ty fs))

-- the field of number m behind number k
abbrev IsBehind : ℕ → Tys → List FieldDecl → Option (ℕ × Ty) → Type 0
IsBehind k ts fs None = Unit {0}
IsBehind k ts fs (Some p) = (m : ℕ) × (p.0 ≡ m + k) × (sort_at (sorts_of ts fs) m ≡ Some p.1)

one_behind : (k : ℕ) (ts : Tys) (f : FieldDecl) (fs : List FieldDecl) (o : Option (ℕ × Ty)) → IsBehind (suc k) ts fs o → IsBehind k ts (f ∷ fs) o
one_behind k ts f fs None h = tt
one_behind k ts f fs (Some p) h = (suc h.0, h.1 ∙ omega arith, h.2)

by_name : (b : Bool) (k : ℕ) (x : Name) (ts : Tys) (f : FieldDecl) (fs : List FieldDecl) → IsBehind (suc k) ts fs (field_from (suc k) x ts fs)
    → IsBehind k ts (f ∷ fs) (if b then Some (k, field_at ts f) else field_from (suc k) x ts fs)
by_name true k x ts f fs h = (0, omega arith, refl)
by_name false k x ts f fs h = one_behind k ts f fs (field_from (suc k) x ts fs) h

behind : (k : ℕ) (x : Name) (ts : Tys) (fs : List FieldDecl) → IsBehind k ts fs (field_from k x ts fs)
behind k x ts [] = tt
behind k x ts (f ∷ fs) = by_name (f.name.0 == x.0) k x ts f fs (behind (suc k) x ts fs)

-- ---- fields of a declared type

-- the declared type has one variant, of fields of these sorts
abbrev IsOnly : Option AdtDecl → Tys → ℕ → Ty → Type 0
IsOnly o ts n s = (fs : Tys) × (fields_of (variant_of o 0) ≡ Some fs) × ((k : ℕ) (gs : Tys) → fields_of (variant_of o k) ≡ Some gs → k ≡ 0) × (sort_at (instances ts fs) n ≡ Some s)

abbrev IsOnlyPart : Option AdtDecl → Tys → Option (ℕ × Ty) → Type 0
IsOnlyPart o ts None = Unit {0}
IsOnlyPart o ts (Some p) = IsOnly o ts p.0 p.1

first_alone : (v : VariantDecl) (k : ℕ) (gs : Tys) → fields_of (slice_get (v ∷ []) k) ≡ Some gs → k ≡ 0
first_alone v zero gs e = refl
first_alone v (suc k) gs e = absurd (cc)

module _ (d : AdtDecl) (ts : Tys) where
  in_one : (vs : List VariantDecl) (v : VariantDecl) (o : Option (ℕ × Ty)) → d.variants ≡ vs → vs ≡ v ∷ [] → IsBehind 0 ts v.fields o → IsOnlyPart (Some d) ts o
  in_one vs v None e q h = tt
  in_one vs v (Some p) e q h =
      let is : d.variants ≡ v ∷ [] = e ∙ q in
      let same : h.0 ≡ p.0 = omega (arith, h.1) in (
        tys_of (map field_ty v.fields),
        ap (λ (us : List VariantDecl). fields_of (slice_get us 0)) is,
        λ k gs f. first_alone v k gs (ap (λ (us : List VariantDecl). fields_of (slice_get us k)) (sym is) ∙ f),
        subst (λ m. sort_at (sorts_of ts v.fields) m ≡ Some p.1) same h.2,
      )

  in_variants : (x : Name) (vs : List VariantDecl) → d.variants ≡ vs → IsOnlyPart (Some d) ts (field_from 0 x ts (only_fields vs))
  in_variants x [] e = tt
  in_variants x (v ∷ []) e = in_one (v ∷ []) v (field_from 0 x ts v.fields) e refl (behind 0 x ts v.fields)
  in_variants x (v ∷ w ∷ vs) e = tt

  if_struct : (x : Name) (b : Bool) → IsOnlyPart (Some d) ts (field_from 0 x ts (if b then only_fields d.variants else []))
  if_struct x true = in_variants x d.variants refl
  if_struct x false = tt

in_declared : (x : Name) (ts : Tys) (o : Option AdtDecl) → IsOnlyPart o ts (field_from 0 x ts (struct_fields o))
in_declared x ts None = tt
in_declared x ts (Some d) = if_struct d ts x d.is_struct

-- ---- fields and parts of types

declared_part : (ds : List AdtDecl) (t : Ty) (o : Option AdtDecl) (ts : Tys) (f : Option (ℕ × Ty)) → ((n : ℕ) (s : Ty) → IsOnly o ts n s → IsPart ds t (Some (n, s))) → IsOnlyPart o ts f → IsPart ds t f
declared_part ds t o ts None is h = tt
declared_part ds t o ts (Some p) is h = is p.0 p.1 h

field_found : (ds : List AdtDecl) (t : Ty) (x : Name) → IsPart ds t (field_of ds x t)
field_found ds (adt d rs ts) x = declared_part ds (adt d rs ts) (slice_get ds d.0) ts (field_from 0 x ts (struct_fields (slice_get ds d.0))) (λ n s h. h) (in_declared x ts (slice_get ds d.0))
field_found ds t x = tt

tuple_found : (ds : List AdtDecl) (ts : Tys) (n : ℕ) (o : Option Ty) → sort_at ts n ≡ o → IsPart ds (tuple ts) (with_number n o)
tuple_found ds ts n None e = tt
tuple_found ds ts n (Some s) e = e

part_found : (ds : List AdtDecl) (t : Ty) (n : ℕ) → IsPart ds t (part_of ds t n)
part_found ds (tuple ts) n = tuple_found ds ts n (sort_at ts n) refl
part_found ds (adt d rs ts) n = field_found ds (adt d rs ts) (numbered n)
part_found ds t n = tt

number_found : (ds : List AdtDecl) (t : Ty) (n : Option ℕ) → IsPart ds t (part_if ds t n)
number_found ds t None = tt
number_found ds t (Some n) = part_found ds t n

pub found_parts : FoundPartsHaveTheirSorts
found_parts ds t = (field_found ds t, number_found ds t)
