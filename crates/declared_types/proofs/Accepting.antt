-- Where all checks of a source hold, its declared types are accepted.
use Rattle.std.proofs.Common.{◌≡◌, ℕ, zero, suc, ◌+◌, Bool, true, false, List, [], ◌∷◌, ◌++◌, length, Some, Result, Ok, Err, slice_get, if◌then◌else◌, refl, sym, subst, arith}
use Rattle.text_core.specs.declared.name.Name.{Name}
use Rattle.text_core.specs.declared.refusal.SourceError.{SourceError}
use Rattle.text_core.specs.declared.span.Span.{Span}
use Rattle.logic_term.specs.Sort.{of_adt, of_none}
use Rattle.logic_term.specs.Ty.{Ty, Tys, no_tys, and_ty, param}
use Rattle.logic_term.specs.Sort.{instances, nth_ty}
use Rattle.logic_term.specs.Value.{Made, no_values}
use Rattle.logic_term.specs.declared.declaration.AdtDecl.{AdtDecl}
use Rattle.logic_term.specs.declared.declaration.FieldDecl.{FieldDecl}
use Rattle.logic_term.specs.declared.kinds.Ctor.TheVariants as ctor
use Rattle.source_trees.specs.declared.attribute.Attribute.{Attribute}
use Rattle.source_trees.specs.declared.item.Field.{Field}
use Rattle.source_trees.specs.declared.item.Fields.{Fields}
use Rattle.source_trees.specs.declared.item.Fields.TheVariants as fields
use Rattle.source_trees.specs.declared.item.Item.{Item}
use Rattle.source_trees.specs.declared.item.ItemNode.{ItemNode}
use Rattle.source_trees.specs.declared.item.ItemNode.TheVariants as item
use Rattle.source_trees.specs.declared.item.Variant.{Variant}
use Rattle.source_trees.specs.declared.item.VariantFields.{VariantFields}
use Rattle.source_trees.specs.declared.item.VariantFields.TheVariants as parts
use Rattle.source_trees.specs.TypeTree.{TypeTree}
use Rattle.rs_types.specs.Accepted.{all_fields, AreFlat, IsGood, AreAccepted}
use Rattle.rs_types.specs.Bounded.{AllBounded, adt_bounded, none_bounded, more_bounded, params_from}
use Rattle.rs_types.specs.Checked.{Passes, AllPass}
use Rattle.rs_types.specs.Endless.{IsBounded}
use Rattle.rs_types.specs.Growing.{declared_by}
use Rattle.rs_types.specs.Meant.{Scope, meant}
use Rattle.rs_types.specs.Nesting.{IsFlat}
use Rattle.rs_types.specs.declared.checks.Check.{Check}
use Rattle.rs_types.specs.declared.written.Elision.{Elision}
use Rattle.rs_types.specs.declared.written.Elision.TheVariants as elision
use Rattle.rs_types.proofs.Nested.{lower}
use Rattle.rs_types.proofs.Ranked.{params_bounded}
use Rattle.declared_types.specs.Answers.{with_some}
use Rattle.declared_types.specs.DeclaredTypes.{type_or_unit, fields_from, parts_from, struct_fields, variant_fields, variants_of, item_scope, declared_type, takes, types_from, heads, option_type, declares_option, declared_types}
use Rattle.declared_types.specs.Declaring.{check_by, check_of, fields_checks, parts_checks, struct_fields_checks, variant_fields_checks, variants_checks, named, type_name, value_name, node_checks, checks_from, checks}

module _ (ds : List AdtDecl) where
  front : (xs ys : List Check) → AllPass ds (xs ++ ys) → AllPass ds xs
  front [] ys p = tt
  front (x ∷ xs) ys p = (p.0, front xs ys p.1)

  back : (xs ys : List Check) → AllPass ds (xs ++ ys) → AllPass ds ys
  back [] ys p = p
  back (x ∷ xs) ys p = back xs ys p.1

  both_flat : (fs gs : List FieldDecl) → AreFlat ds fs → AreFlat ds gs → AreFlat ds (fs ++ gs)
  both_flat [] gs p q = q
  both_flat (f ∷ fs) gs p q = (p.0, both_flat fs gs p.1 q)

  -- ---- fields

  module _ (Γ : Scope) where
    type_flat : (w : TypeTree) → Passes ds (check_of Γ elision.Refused w).0 → IsFlat (declared_by ds) (type_or_unit (meant Γ elision.Refused w))
    type_flat w p = by (meant Γ elision.Refused w) p
      where
        by : (m : Result (Ty × Elision) SourceError) → Passes ds (check_by w elision.Refused m).0 → IsFlat (declared_by ds) (type_or_unit m)
        by (Ok t) q = q
        by (Err e) q = absurd q

    fields_flat : (fs : List Field) (seen : List Name) (k : ℕ) → AllPass ds (fields_checks Γ seen fs) → AreFlat ds (fields_from Γ k fs)
    fields_flat [] seen k p = tt
    fields_flat (f ∷ fs) seen k p = (type_flat f.ty p.1.0, fields_flat fs (seen ++ with_some (named f.name) []) (k + 1) p.1.1)

    parts_flat : (ws : List TypeTree) (k : ℕ) → AllPass ds (parts_checks Γ ws) → AreFlat ds (parts_from Γ k ws)
    parts_flat [] k p = tt
    parts_flat (w ∷ ws) k p = (type_flat w p.0, parts_flat ws (k + 1) p.1)

    struct_flat : (fs : Fields) → AllPass ds (struct_fields_checks Γ fs) → AreFlat ds (struct_fields Γ fs)
    struct_flat fields.Unit p = tt
    struct_flat (fields.Tuple fs) p = fields_flat fs [] 0 p
    struct_flat (fields.Named fs) p = fields_flat fs [] 0 p

    variant_flat : (fs : VariantFields) → AllPass ds (variant_fields_checks Γ fs) → AreFlat ds (variant_fields Γ fs)
    variant_flat parts.Unit p = tt
    variant_flat (parts.Tuple ws) p = parts_flat ws 0 p
    variant_flat (parts.Named fs) p = fields_flat fs [] 0 p

    variants_flat : (vs : List Variant) (seen : List Name) → AllPass ds (variants_checks Γ seen vs) → AreFlat ds (all_fields (variants_of Γ vs))
    variants_flat [] seen p = tt
    variants_flat (v ∷ vs) seen p =
        let rest = variants_checks Γ (seen ++ v.name.name ∷ []) vs in
        both_flat (variant_fields Γ v.fields) (all_fields (variants_of Γ vs)) (variant_flat v.fields (front (variant_fields_checks Γ v.fields) rest p.1))
        (variants_flat vs (seen ++ v.name.name ∷ []) (back (variant_fields_checks Γ v.fields) rest p.1))

  -- ---- items

  -- each of these, whose numbers begin there
  abbrev AreGood : ℕ → List AdtDecl → Type 0
  AreGood n xs = (d : ℕ) (c : AdtDecl) → slice_get xs d ≡ Some c → IsGood ds (n + d) c

  none_good : (n : ℕ) → AreGood n []
  none_good n zero c e = absurd (grind (arith, e))
  none_good n (suc d) c e = absurd (grind (arith, e))

  first_good : (n : ℕ) (x : AdtDecl) (rest : List AdtDecl) → IsGood ds n x → AreGood (n + 1) rest → AreGood n (x ∷ rest)
  first_good n x rest g h zero c e =
      let same : x ≡ c = cc in
      let at : n ≡ n + 0 = grind arith in
      subst (λ k. IsGood ds k c) at (subst (IsGood ds n) same g)
  first_good n x rest g h (suc d) c e =
      let at : n + 1 + d ≡ n + suc d = omega arith in
      subst (λ k. IsGood ds k c) at (h d c e)

  as_before : (n : ℕ) (rest : List AdtDecl) → AreGood (n + 0) rest → AreGood n rest
  as_before n rest h d c e =
      let at : n + 0 + d ≡ n + d = omega arith in
      subst (λ k. IsGood ds k c) at (h d c e)

  module _ (hs : List AdtDecl) where
    item_good : (n : ℕ) (own : Span) (before : List Attribute) (k : ItemNode) (rest : List AdtDecl) → AllPass ds (node_checks hs n own k) → AreGood (n + takes k) rest
        → AreGood n (with_some (declared_type hs n before k) rest)
    item_good n own before (item.Struct s) rest p h =
        let Γ = item_scope hs n s.generics in
        let finite = back (struct_fields_checks Γ s.fields) _ p in
        let flat = struct_flat Γ s.fields (front (struct_fields_checks Γ s.fields) _ p) in
        first_good n _ rest (record { flat = both_flat (struct_fields Γ s.fields) [] flat tt; bounded = finite.0.0; inhabited = finite.0.1 }) h
    item_good n own before (item.Enum s) rest p h =
        let Γ = item_scope hs n s.generics in
        let finite = back (variants_checks Γ [] s.variants) _ p in
        let flat = variants_flat Γ s.variants [] (front (variants_checks Γ [] s.variants) _ p) in
        first_good n _ rest (record { flat = flat; bounded = finite.0.0; inhabited = finite.0.1 }) h
    item_good n own before (item.Function f) rest p h = as_before n rest h
    item_good n own before (item.Trait t) rest p h = as_before n rest h
    item_good n own before (item.Impl m) rest p h = as_before n rest h
    item_good n own before item.Use rest p h = as_before n rest h
    item_good n own before item.ExternCrate rest p h = as_before n rest h

    items_good : (is : List Item) (n : ℕ) (ts vs : List Name) → AllPass ds (checks_from hs n ts vs is) → AreGood n (types_from hs n is)
    items_good [] n ts vs p = none_good n
    items_good (i ∷ is) n ts vs p =
        let ts' = ts ++ with_some (named (type_name i.node)) [] in
        let vs' = vs ++ with_some (named (value_name i.node)) [] in
        let left = checks_from hs (n + takes i.node) ts' vs' is in
        item_good n i.own i.attributes i.node (types_from hs (n + takes i.node) is) (front (node_checks hs n i.own i.node) left p.1)
        (items_good is (n + takes i.node) ts' vs' (back (node_checks hs n i.own i.node) left p.1))

-- ---- `Option`

module _ (rest : List AdtDecl) where
  abbrev with_option : List AdtDecl
  with_option = option_type ∷ rest

  option_bounded : IsBounded with_option 0
  option_bounded rs m = adt_bounded by
    where
      by : (k : ℕ) (fs : Tys) → declared_by with_option (record { 0 = 0 }) k ≡ Some fs → AllBounded (declared_by with_option) (instances (params_from m 0) fs)
      by zero fs e =
          let same : no_tys ≡ fs = cc in
          subst (λ x. AllBounded (declared_by with_option) (instances (params_from m 0) x)) same none_bounded
      by (suc zero) fs e =
          let same : and_ty (param 0) no_tys ≡ fs = cc in
          subst (λ x. AllBounded (declared_by with_option) (instances (params_from m 0) x)) same (more_bounded (params_bounded (declared_by with_option) m 0 0) none_bounded)
      by (suc (suc zero)) fs e = absurd (grind (arith, e))
      by (suc (suc (suc k))) fs e = absurd (grind (arith, e))

  option_good : IsGood with_option 0 option_type
  option_good = record {
    flat = ((λ ts none p. none 0 (lower (declared_by with_option) 2 1 (nth_ty ts 0) (omega arith) p)), tt);
    bounded = option_bounded;
    inhabited = λ rs ts h. (Made (ctor.Variant (record { 0 = 0 }) 0) no_values, of_adt {k = 0} {fs = no_tys} refl of_none);
  }

-- ---- the whole

module _ (is : List Item) (hs : List AdtDecl) where
  abbrev before : Bool → List AdtDecl
  before b = if b then [] else option_type ∷ []

  abbrev all : Bool → List AdtDecl
  all b = before b ++ types_from hs (length (before b)) is

  accepted_by : (b : Bool) → AllPass (all b) (checks_from hs (length (before b)) [] [] is) → AreAccepted (all b)
  accepted_by true p = record { good = by }
    where
      by : (d : ℕ) (c : AdtDecl) → slice_get (types_from hs 0 is) d ≡ Some c → IsGood (types_from hs 0 is) d c
      by d c e =
          let at : 0 + d ≡ d = grind arith in
          subst (λ k. IsGood (types_from hs 0 is) k c) at (items_good (types_from hs 0 is) hs is 0 [] [] p d c e)
  accepted_by false p = record { good = by }
    where
      by : (d : ℕ) (c : AdtDecl) → slice_get (option_type ∷ types_from hs 1 is) d ≡ Some c → IsGood (option_type ∷ types_from hs 1 is) d c
      by zero c e =
          let same : option_type ≡ c = cc in
          subst (IsGood (option_type ∷ types_from hs 1 is) 0) same (option_good (types_from hs 1 is))
      by (suc d) c e =
          let at : 1 + d ≡ suc d = grind arith in
          subst (λ k. IsGood (option_type ∷ types_from hs 1 is) k c) at (items_good (option_type ∷ types_from hs 1 is) hs is 1 [] [] p d c e)

pub accepted : (is : List Item) (t : List AdtDecl) → t ≡ declared_types is → AllPass (declared_types is) (checks is) → AreAccepted t
unfolding declared_types checks
accepted is t e p = subst AreAccepted (sym e) (accepted_by is (heads is) (declares_option is) p)
