-- A value of a tuple or a struct is made of its parts.
use Rattle.std.proofs.Common.{◌≡◌, ℕ, zero, suc, Bool, true, false, cond, List, [], ◌∷◌, length, map, Option, Some, None, slice_get, refl, sym, ◌∙◌, ap, subst}
use Rattle.logic_term.specs.declared.declaration.AdtDecl.{AdtDecl}
use Rattle.logic_term.specs.declared.declaration.FieldDecl.{FieldDecl}
use Rattle.logic_term.specs.declared.declaration.VariantDecl.{VariantDecl}
use Rattle.logic_term.specs.declared.kinds.AdtId.{AdtId}
use Rattle.logic_term.specs.declared.kinds.Ctor.TheVariants.{Variant}
use Rattle.logic_term.specs.Meaning.{Each, Structure, Env, Means, Argument, Holds}
use Rattle.logic_term.specs.Sort.{Declarations, HasSort, HaveSorts, of_none, of_more, instance, instances}
use Rattle.logic_term.specs.Term.{Term, Terms, apply, made, count, is_equal}
use Rattle.logic_term.specs.TermView.{terms_of}
use Rattle.logic_term.specs.Theory.{Theory, field_ty, fields_of, variant_of, declared}
use Rattle.logic_term.specs.Ty.{Ty, Tys, tuple, adt, no_tys, and_ty}
use Rattle.logic_term.specs.TyView.{tys_of}
use Rattle.logic_term.specs.Value.{Value, Values, Made, no_values, and_value, parts_of, nth_value}
use Rattle.logic_term.proofs.SortParts.{parts}
use Rattle.logic_term.proofs.Truth.{holds_equal}
use Rattle.logic_term.proofs.Unique.{single, has_value}
use Rattle.logic_elab.specs.declared.sorted.SortedTerm.{SortedTerm}
use Rattle.proof_kernel.specs.EtaRule.{Shape, count_tys, only_variant, struct_shape, shape_of, parts_from, made_of_parts, eta_at}
use Rattle.proof_kernel.proofs.Facts.{AllTrue, surely_true}
use Rattle.proof_kernel.proofs.FormsFound.{same_some, mapped}

-- ---- how many parts there are

abbrev count_values : Values → ℕ
count_values no_values = 0
count_values (and_value v vs) = suc (count_values vs)

counted : (Δ : Declarations) (vs : Values) (ts : Tys) → HaveSorts Δ vs ts → count_values vs ≡ count_tys ts
counted Δ vs ts of_none = refl
counted Δ vs ts (of_more {vs = us} {ts = ss} h g) = ap suc (counted Δ us ss g)

count_instances : (θ ts : Tys) → count_tys (instances θ ts) ≡ count_tys ts
count_instances θ no_tys = refl
count_instances θ (and_ty t ts) = ap suc (count_instances θ ts)

count_fields : (fs : List FieldDecl) → count_tys (tys_of (map field_ty fs)) ≡ length fs
count_fields [] = refl
count_fields (f ∷ fs) = ap suc (count_fields fs)

-- ---- the values of the parts

-- so many of the values, from number k on
abbrev values_from : ℕ → ℕ → Values → Values
values_from k zero vs = no_values
values_from k (suc n) vs = and_value (nth_value vs k) (values_from (suc k) n vs)

behind_first : (k n : ℕ) (v : Value) (vs : Values) → values_from (suc k) n (and_value v vs) ≡ values_from k n vs
behind_first k zero v vs = refl
behind_first k (suc n) v vs = ap (and_value (nth_value vs k)) (behind_first (suc k) n v vs)

all_values : (vs : Values) → values_from 0 (count_values vs) vs ≡ vs
all_values no_values = refl
all_values (and_value v vs) = ap (and_value v) (behind_first 0 (count_values vs) v vs ∙ all_values vs)

-- ---- the shape of a sort

-- the value is of the shape
abbrev HasShape : Shape → Value → Type 0
HasShape p v = (vs : Values) × (v ≡ Made p.ctor vs) × (count_values vs ≡ p.parts)

module _ (d : AdtId) (p : Shape) (fs : Tys) where
  abbrev IsOf : ℕ → Type 0
  IsOf k = (p.ctor ≡ Variant d k) × (p.parts ≡ count_tys fs)

  of_variant : (vs : List VariantDecl) (k : ℕ) → only_variant d vs ≡ Some p → fields_of (slice_get vs k) ≡ Some fs → IsOf k
  of_variant [] k e f = absurd (cc)
  of_variant (v ∷ []) zero e f =
      let same : record { ctor = Variant d 0; parts = length v.fields } ≡ p = same_some _ p e in
      let fields : tys_of (map field_ty v.fields) ≡ fs = same_some _ fs f in
      (sym (ap (λ (o : Shape). o.ctor) same), sym (ap (λ (o : Shape). o.parts) same) ∙ sym (count_fields v.fields) ∙ ap count_tys fields)
  of_variant (v ∷ []) (suc k) e f = absurd (cc)
  of_variant (v ∷ w ∷ vs) k e f = absurd (cc)

  of_struct : (o : Option AdtDecl) (k : ℕ) → struct_shape d o ≡ Some p → fields_of (variant_of o k) ≡ Some fs → IsOf k
  of_struct None k e f = absurd (cc)
  of_struct (Some decl) k e f = by decl.is_struct e
    where
      by : (b : Bool) → cond b (only_variant d decl.variants) None ≡ Some p → IsOf k
      by true g = of_variant decl.variants k g f
      by false g = absurd (cc)

module _ (S : Structure) where
  abbrev Δ : Declarations
  Δ = declared S.theory

  module _ (adts : List AdtDecl) (is : S.theory ≡ record { adts = adts }) where
    has_shape : (s : Ty) (p : Shape) (v : Value) → shape_of adts s ≡ Some p → HasSort Δ v (instance S.types s) → HasShape p v
    has_shape (tuple ts) p v e h =
        let q = parts Δ v (tuple (instances S.types ts)) h in
        subst (λ (o : Shape). HasShape o v) (same_some _ p e) (q.0, q.1, counted Δ q.0 (instances S.types ts) q.2 ∙ count_instances S.types ts)
    has_shape (adt d rs ts) p v e h =
        let q = parts Δ v (adt d rs (instances S.types ts)) h in
        let fields : fields_of (variant_of (slice_get adts d.0) q.0) ≡ Some q.1 = subst (λ (Θ : Theory). declared Θ d q.0 ≡ Some q.1) is q.4 in
        let o = of_struct d p q.1 (slice_get adts d.0) q.0 e fields in
        let many : count_values q.2 ≡ count_tys (instances (instances S.types ts) q.1) = counted Δ q.2 (instances (instances S.types ts) q.1) q.5 in
        (q.2, q.3 ∙ ap (λ c. Made c q.2) (sym o.0), many ∙ count_instances (instances S.types ts) q.1 ∙ sym o.1)
    has_shape s p v e h = absurd (cc)

  -- ---- the equation

  module _ (ρ : Env) (t : Term) (v : Value) (m : Means S t ρ v) where
    parts_have : (k n : ℕ) → Each (count (terms_of (parts_from k n t))) (λ j. Argument S (terms_of (parts_from k n t)) ρ j) (values_from k n (parts_of v))
    parts_have k zero = refl
    parts_have k (suc n) = (nth_value (parts_of v) k, values_from (suc k) n (parts_of v), (v, m, refl), parts_have (suc k) n, refl)

    made_true : (p : Shape) → HasShape p v → Holds S (is_equal t (apply (made p.ctor) (terms_of (parts_from 0 p.parts t)))) ρ
    made_true p shape =
        let values : values_from 0 p.parts (parts_of v) ≡ shape.0 =
        ap (λ (u : Value). values_from 0 p.parts (parts_of u)) shape.1 ∙ ap (λ n. values_from 0 n shape.0) (sym shape.2) ∙ all_values shape.0 in
        let whole : Term = apply (made p.ctor) (terms_of (parts_from 0 p.parts t)) in
        let made_value : Value = Made p.ctor (values_from 0 p.parts (parts_of v)) in
        let has : Means S whole ρ made_value = (values_from 0 p.parts (parts_of v), parts_have 0 p.parts, refl) in
        let same : made_value ≡ v = ap (Made p.ctor) values ∙ sym shape.1 in
        (holds_equal S t whole ρ).1 (λ x y a b n. n (single S t ρ x v a m ∙ sym same ∙ single S whole ρ made_value y has b))

  -- a term of the sort of a tuple or a struct is made of its parts
  pub eta_holds : (adts : List AdtDecl) → S.theory ≡ record { adts = adts } → (ρ : Env) (a : SortedTerm) (ts : List Term) → eta_at adts a ≡ Some ts
      → ((v : Value) → Means S a.term ρ v → HasSort Δ v (instance S.types a.sort)) → AllTrue S ts ρ
  eta_holds adts is ρ a ts f sorted =
      let m = mapped (made_of_parts a.term) (shape_of adts a.sort) ts f in
      subst (λ (us : List Term). AllTrue S us ρ) m.2
      (surely_true S (made_of_parts a.term m.0) ρ (λ n. has_value S a.term ρ (λ (w : (v : Value) × Means S a.term ρ v).
      n (made_true ρ a.term w.0 w.1 m.0 (has_shape adts is a.sort m.0 w.0 m.1 (sorted w.0 w.1)), tt))))
