-- The fields of a declared type without lifetimes hold no references: a reference has a lifetime, which a field may not leave out.
use Rattle.std.proofs.Common.{◌≡◌, ◌∙◌, refl, sym, ap, subst, ℕ, zero, suc, ◌+◌, ◌==◌, ◌&&◌, Bool, true, false, cond, List, [], ◌∷◌, ◌++◌, length, map, Option, Some, None, Result, Ok, Err, slice_get, if◌then◌else◌, arith}
use Rattle.text_core.specs.declared.name.Name.{Name}
use Rattle.text_core.specs.declared.refusal.SourceError.{SourceError}
use Rattle.text_core.specs.declared.span.Span.{Span}
use Rattle.logic_term.specs.declared.declaration.AdtDecl.{AdtDecl}
use Rattle.logic_term.specs.declared.declaration.FieldDecl.{FieldDecl}
use Rattle.logic_term.specs.declared.declaration.VariantDecl.{VariantDecl}
use Rattle.logic_term.specs.declared.kinds.AdtId.{AdtId}
use Rattle.logic_term.specs.declared.kinds.Region.{Region}
use Rattle.logic_term.specs.Theory.{field_ty}
use Rattle.logic_term.specs.Ty.{Ty, int, bool, math_int, adt, param}
use Rattle.logic_term.specs.TyView.{tys_of}
use Rattle.source_trees.specs.declared.attribute.Attribute.{Attribute}
use Rattle.source_trees.specs.declared.generics.GenericParam.{GenericParam}
use Rattle.source_trees.specs.declared.item.Enum.{Enum}
use Rattle.source_trees.specs.declared.item.Field.{Field}
use Rattle.source_trees.specs.declared.item.Fields.{Fields}
use Rattle.source_trees.specs.declared.item.Fields.TheVariants as fields
use Rattle.source_trees.specs.declared.item.Item.{Item}
use Rattle.source_trees.specs.declared.item.ItemNode.{ItemNode}
use Rattle.source_trees.specs.declared.item.ItemNode.TheVariants as item
use Rattle.source_trees.specs.declared.item.Struct.{Struct}
use Rattle.source_trees.specs.declared.item.Variant.{Variant}
use Rattle.source_trees.specs.declared.item.VariantFields.{VariantFields}
use Rattle.source_trees.specs.declared.item.VariantFields.TheVariants as parts
use Rattle.source_trees.specs.declared.path.Segment.{Segment}
use Rattle.source_trees.specs.TypeTree.{TypeTree, named, tuple, reference, self_type, self_view, Types, none, more, TypeArguments, no_arguments, with_lifetime, with_type}
use Rattle.rs_types.specs.Bounded.{params_from}
use Rattle.rs_types.specs.Meant.{Scope, meant, meant_all, meant_arguments, name_or, type_named, named_at, declared_at, regions_for, all_elided, alone, in_box, unchanged, self_or, lifetime_or, lifetime_named, region_or, place_among, elided, ◌>>=◌}
use Rattle.rs_types.specs.declared.written.ArgumentList.{ArgumentList}
use Rattle.rs_types.specs.declared.written.Elision.{Elision}
use Rattle.rs_types.specs.declared.written.Elision.TheVariants.{Refused}
use Rattle.rs_types.specs.declared.written.TypeName.{TypeName}
use Rattle.rs_types.specs.declared.written.TypeName.TheVariants as name
use Rattle.declared_types.specs.Answers.{with_some}
use Rattle.declared_types.specs.DeclaredTypes.{type_or_unit, field_decl, fields_from, parts_from, struct_fields, struct_kind, variant_fields, variants_of, variant_kind, own_type, item_scope, declared_type, decl_of}
use Rattle.declared_types.specs.DeclaredTypes.{head, heads, heads_from, types_from, takes, prelude, option_type, declares_option, first_number, declared_types, lifetimes_of, parameters_of}
use Rattle.runnable.specs.Runs.{has_no_lifetimes, is_owned, are_owned}
use Rattle.runnable.proofs.Unrun.{both}

-- ---- one part after another

bound : {A B : Type 0} (m : Result A SourceError) (k : A → Result B SourceError) (b : B) → (m >>= k) ≡ Ok b → (a : A) × (m ≡ Ok a) × (k a ≡ Ok b)
bound (Ok a) k b e = (a, refl, e)
bound (Err x) k b e = absurd (cc)

same_ok : {A : Type 0} (a b : A) → ◌≡◌ {A = Result A SourceError} (Ok a) (Ok b) → a ≡ b
same_ok a b e = cc

no_ok : {A : Type 0} (x : SourceError) (a : A) → ◌≡◌ {A = Result A SourceError} (Err x) (Ok a) → ⊥
no_ok x a e = cc

both_true : (a b : Bool) → a ≡ true → b ≡ true → (a && b) ≡ true
both_true a b p q = ap (λ x. x && b) p ∙ q

-- ---- the lifetimes of declared types, by their heads

abbrev lifetimes_at : List AdtDecl → ℕ → Bool
lifetimes_at ds n = has_no_lifetimes (slice_get ds n)

same_behind : (front xs ys : List AdtDecl) → ((n : ℕ) → lifetimes_at xs n ≡ lifetimes_at ys n) → (n : ℕ) → lifetimes_at (front ++ xs) n ≡ lifetimes_at (front ++ ys) n
same_behind [] xs ys h n = h n
same_behind (d ∷ front) xs ys h zero = refl
same_behind (d ∷ front) xs ys h (suc n) = same_behind front xs ys h n

module _ (hs : List AdtDecl) where
  same_step : (n : ℕ) (as' : List Attribute) (node : ItemNode) (xs ys : List AdtDecl) → ((k : ℕ) → lifetimes_at xs k ≡ lifetimes_at ys k)
      → (k : ℕ) → lifetimes_at (with_some (head as' node) xs) k ≡ lifetimes_at (with_some (declared_type hs n as' node) ys) k
  same_step n as' (item.Struct s) xs ys h zero = refl
  same_step n as' (item.Struct s) xs ys h (suc k) = h k
  same_step n as' (item.Enum e) xs ys h zero = refl
  same_step n as' (item.Enum e) xs ys h (suc k) = h k
  same_step n as' (item.Function f) xs ys h k = h k
  same_step n as' (item.Trait t) xs ys h k = h k
  same_step n as' (item.Impl m) xs ys h k = h k
  same_step n as' item.Use xs ys h k = h k
  same_step n as' item.ExternCrate xs ys h k = h k

  same_from : (n : ℕ) (is : List Item) (k : ℕ) → lifetimes_at (heads_from is) k ≡ lifetimes_at (types_from hs n is) k
  same_from n [] k = refl
  same_from n (i ∷ is) k = same_step n i.attributes i.node (heads_from is) (types_from hs (n + takes i.node) is) (same_from (n + takes i.node) is) k

same_lifetimes : (is : List Item) (k : ℕ) → lifetimes_at (heads is) k ≡ lifetimes_at (declared_types is) k
unfolding heads declared_types
same_lifetimes is k = same_behind (prelude is) (heads_from is) (types_from (heads is) (first_number is) is) (same_from (heads is) (first_number is) is) k

-- ---- written types

none_there : (x : Name) (ls : List Name) (n : ℕ) → ls ≡ [] → place_among x ls ≡ Some n → ⊥
none_there x [] n e q = cc
none_there x (l ∷ ls) n e q = cc

no_lifetime : (Γ : Scope) (l : Segment) (r : Region) → Γ.lifetimes ≡ [] → lifetime_named Γ l ≡ Ok r → ⊥
unfolding lifetime_named
no_lifetime Γ l r e q = by (place_among l.name Γ.lifetimes) refl q
  where
    by : (o : Option ℕ) → place_among l.name Γ.lifetimes ≡ o → region_or l.span o ≡ Ok r → ⊥
    by None p q = no_ok _ _ q
    by (Some n) p q = none_there l.name Γ.lifetimes n e p

none_left_out : (n : ℕ) (s : Span) (rs : List Region × Elision) → all_elided n Refused s ≡ Ok rs → (n ≡ 0) × (rs.1 ≡ Refused)
none_left_out zero s rs e = (refl, sym (ap (λ (x : List Region × Elision). x.1) (same_ok _ _ e)))
none_left_out (suc n) s rs e = absurd (no_ok _ _ e)

-- the scope has no lifetimes, `Self` holds no references, and its declared types have lifetimes where those of the list have
record IsFree (ds : List AdtDecl) (Γ : Scope) : Type 0 where
  lifetimes : Γ.lifetimes ≡ []
  itself : (t : Ty) → Γ.self_ty ≡ Some t → is_owned ds t ≡ true
  same : (k : ℕ) → lifetimes_at Γ.declared k ≡ lifetimes_at ds k

module _ (ds : List AdtDecl) (Γ : Scope) (free : IsFree ds Γ) where
  abbrev Holds : Ty × Elision → Type 0
  Holds t = (t.1 ≡ Refused) × (is_owned ds t.0 ≡ true)

  abbrev Given : ArgumentList × Elision → Type 0
  Given a = (a.1 ≡ Refused) × (a.0.regions ≡ []) × (are_owned ds (tys_of a.0.types) ≡ true)

  if_ok : {A : Type 0} (c : Bool) (m : Result A SourceError) (x : SourceError) (a : A) → cond c m (Err x) ≡ Ok a → m ≡ Ok a
  if_ok true m x a e = e
  if_ok false m x a e = absurd (no_ok _ _ e)

  alone_owned : (s : Span) (t u : Ty) (given : ArgumentList) → is_owned ds t ≡ true → alone s t given ≡ Ok u → is_owned ds u ≡ true
  alone_owned s t u given h e =
      let p = if_ok (length given.regions == 0) _ _ u e in
      let q : ◌≡◌ {A = Result Ty SourceError} (Ok t) (Ok u) = if_ok (length given.types == 0) _ _ u p in
      subst (λ v. is_owned ds v ≡ true) (same_ok _ _ q) h

  stays : (m : Elision) (r : Result Ty SourceError) (t : Ty × Elision) → m ≡ Refused → ((u : Ty) → r ≡ Ok u → is_owned ds u ≡ true) → unchanged m r ≡ Ok t → Holds t
  stays m r t is h e =
      let w = bound r _ t e in
      let same : (w.0, m) ≡ t = same_ok _ _ w.2 in
      (sym (ap (λ (x : Ty × Elision). x.1) same) ∙ is, subst (λ u. is_owned ds u ≡ true) (ap (λ (x : Ty × Elision). x.0) same) (h w.0 w.1))

  boxed_owned : (s : Span) (ts : List Ty) (u : Ty) → are_owned ds (tys_of ts) ≡ true → in_box s ts ≡ Ok u → is_owned ds u ≡ true
  boxed_owned s [] u h e = absurd (no_ok _ _ e)
  boxed_owned s (t ∷ []) u h e = subst (λ v. is_owned ds v ≡ true) (same_ok _ _ e) (both (is_owned ds t) true h).0
  boxed_owned s (t ∷ v ∷ ts) u h e = absurd (no_ok _ _ e)

  declared_owned : (i : AdtId) (o : Option AdtDecl) (s : Span) (given : ArgumentList) (t : Ty × Elision) → slice_get Γ.declared i.0 ≡ o → given.regions ≡ [] → are_owned ds (tys_of given.types) ≡ true → declared_at i o Refused s given ≡ Ok t → Holds t
  declared_owned i None s given t at bare h e = absurd (no_ok _ _ e)
  declared_owned i (Some d) s given t at bare h e =
      let p = if_ok (length given.types == d.params) _ _ t e in
      let w = bound (regions_for d Refused s given.regions) _ t p in
      let r = none_left_out d.regions s w.0 (ap (regions_for d Refused s) (sym bare) ∙ w.1) in
      let same : (adt i w.0.0 (tys_of given.types), w.0.1) ≡ t = same_ok _ _ w.2 in
      let lifeless : lifetimes_at ds i.0 ≡ true = sym (free.same i.0) ∙ ap has_no_lifetimes at ∙ ap (λ n. n == 0) r.0 in (
        sym (ap (λ (x : Ty × Elision). x.1) same) ∙ r.1,
        subst (λ u. is_owned ds u ≡ true) (ap (λ (x : Ty × Elision). x.0) same) (both_true (lifetimes_at ds i.0) (are_owned ds (tys_of given.types)) lifeless h),
      )

  named_owned : (s : Span) (m : Elision) (w : TypeName) (a : ArgumentList) (t : Ty × Elision) → m ≡ Refused → a.regions ≡ [] → are_owned ds (tys_of a.types) ≡ true → named_at Γ s m w a ≡ Ok t → Holds t
  unfolding named_at
  named_owned s m (name.Parameter n) a t is bare h e = stays m _ t is (λ u q. alone_owned s (param n) u a refl q) e
  named_owned s m (name.Declared i) a t is bare h e =
      declared_owned i (slice_get Γ.declared i.0) s a t refl bare h (subst (λ x. declared_at i (slice_get Γ.declared i.0) x s a ≡ Ok t) is e)
  named_owned s m (name.Int k) a t is bare h e = stays m _ t is (λ u q. alone_owned s (int k) u a refl q) e
  named_owned s m name.Bool a t is bare h e = stays m _ t is (λ u q. alone_owned s bool u a refl q) e
  named_owned s m name.MathInt a t is bare h e = stays m _ t is (λ u q. alone_owned s math_int u a refl q) e
  named_owned s m name.Box a t is bare h e = stays m _ t is (λ u q. boxed_owned s a.types u h q) (if_ok (length a.regions == 0) _ _ t e)

  self_owned : (s : Span) (m : Elision) (o : Option Ty) (t : Ty × Elision) → Γ.self_ty ≡ o → m ≡ Refused → self_or s m o ≡ Ok t → Holds t
  self_owned s m None t at is e = absurd (no_ok _ _ e)
  self_owned s m (Some u) t at is e =
      let same : (u, m) ≡ t = same_ok _ _ e in
      (sym (ap (λ (x : Ty × Elision). x.1) same) ∙ is, subst (λ v. is_owned ds v ≡ true) (ap (λ (x : Ty × Elision). x.0) same) (free.itself u at))

  no_reference : (m : Elision) (s : Span) (l : Option Segment) (r : Region × Elision) → m ≡ Refused → lifetime_or Γ m s l ≡ Ok r → ⊥
  no_reference m s None r is e = no_ok _ _ (subst (λ x. elided x s ≡ Ok r) is e)
  no_reference m s (Some l) r is e = let w = bound (lifetime_named Γ l) _ r e in no_lifetime Γ l w.0 free.lifetimes w.1

  mutual
    meant_owned : (m : Elision) (w : TypeTree) (t : Ty × Elision) → m ≡ Refused → meant Γ m w ≡ Ok t → Holds t
    meant_owned m (named s x ws) t is e =
        let w = bound (name_or x.span (type_named Γ x.name)) _ t e in
        let a = bound (meant_arguments Γ m ws) _ t w.2 in
        let g = arguments_owned m ws a.0 is a.1 in
        named_owned s a.0.1 w.0 a.0.0 t g.0 g.1 g.2 a.2
    meant_owned m (tuple s ws) t is e =
        let ts = bound (meant_all Γ m ws) _ t e in
        let g = all_owned m ws ts.0 is ts.1 in
        let same = same_ok _ _ ts.2 in
        (sym (ap (λ (x : Ty × Elision). x.1) same) ∙ g.0, subst (λ u. is_owned ds u ≡ true) (ap (λ (x : Ty × Elision). x.0) same) g.1)
    meant_owned m (reference s l writes w) t is e = let r = bound (lifetime_or Γ m s l) _ t e in absurd (no_reference m s l r.0 is r.1)
    meant_owned m (self_type s) t is e = self_owned s m Γ.self_ty t refl is e
    meant_owned m (self_view s) t is e = absurd (no_ok _ _ e)

    all_owned : (m : Elision) (ws : Types) (ts : List Ty × Elision) → m ≡ Refused → meant_all Γ m ws ≡ Ok ts → (ts.1 ≡ Refused) × (are_owned ds (tys_of ts.0) ≡ true)
    all_owned m none ts is e =
        let same : ([], m) ≡ ts = same_ok _ _ e in
        (sym (ap (λ (x : List Ty × Elision). x.1) same) ∙ is, ap (λ (x : List Ty × Elision). are_owned ds (tys_of x.0)) (sym same))
    all_owned m (more w ws) ts is e =
        let t = bound (meant Γ m w) _ ts e in
        let us = bound (meant_all Γ t.0.1 ws) _ ts t.2 in
        let f = meant_owned m w t.0 is t.1 in
        let g = all_owned t.0.1 ws us.0 f.0 us.1 in
        let same : (t.0.0 ∷ us.0.0, us.0.1) ≡ ts = same_ok _ _ us.2 in (
          sym (ap (λ (x : List Ty × Elision). x.1) same) ∙ g.0,
          ap (λ (x : List Ty × Elision). are_owned ds (tys_of x.0)) (sym same) ∙ both_true (is_owned ds t.0.0) (are_owned ds (tys_of us.0.0)) f.1 g.1,
        )

    arguments_owned : (m : Elision) (ws : TypeArguments) (a : ArgumentList × Elision) → m ≡ Refused → meant_arguments Γ m ws ≡ Ok a → Given a
    arguments_owned m no_arguments a is e =
        let same : (record { regions = []; types = [] }, m) ≡ a = same_ok _ _ e in (
          sym (ap (λ (x : ArgumentList × Elision). x.1) same) ∙ is,
          ap (λ (x : ArgumentList × Elision). x.0.regions) (sym same),
          ap (λ (x : ArgumentList × Elision). are_owned ds (tys_of x.0.types)) (sym same),
        )
    arguments_owned m (with_lifetime l ws) a is e = let r = bound (lifetime_named Γ l) _ a e in absurd (no_lifetime Γ l r.0 free.lifetimes r.1)
    arguments_owned m (with_type w ws) a is e =
        let t = bound (meant Γ m w) _ a e in
        let b = bound (meant_arguments Γ t.0.1 ws) _ a t.2 in
        let f = meant_owned m w t.0 is t.1 in
        let g = arguments_owned t.0.1 ws b.0 f.0 b.1 in
        let same : (record { regions = b.0.0.regions; types = t.0.0 ∷ b.0.0.types }, b.0.1) ≡ a = same_ok _ _ b.2 in (
          sym (ap (λ (x : ArgumentList × Elision). x.1) same) ∙ g.0,
          ap (λ (x : ArgumentList × Elision). x.0.regions) (sym same) ∙ g.1,
          ap (λ (x : ArgumentList × Elision). are_owned ds (tys_of x.0.types)) (sym same) ∙ both_true (is_owned ds t.0.0) (are_owned ds (tys_of b.0.0.types)) f.1 g.2,
        )

  -- ---- fields

  abbrev Own : List FieldDecl → Type 0
  Own fs = are_owned ds (tys_of (map field_ty fs)) ≡ true

  type_owned : (w : TypeTree) (r : Result (Ty × Elision) SourceError) → meant Γ Refused w ≡ r → is_owned ds (type_or_unit r) ≡ true
  type_owned w (Ok t) e = (meant_owned Refused w t refl e).1
  type_owned w (Err x) e = refl

  field_owned : (k : ℕ) (x : Option Segment) (w : TypeTree) → is_owned ds (field_decl Γ k x w).ty ≡ true
  field_owned k x w = type_owned w (meant Γ Refused w) refl

  fields_own : (k : ℕ) (fs : List Field) → Own (fields_from Γ k fs)
  fields_own k [] = refl
  fields_own k (f ∷ fs) = both_true _ _ (field_owned k f.name f.ty) (fields_own (k + 1) fs)

  parts_own : (k : ℕ) (ws : List TypeTree) → Own (parts_from Γ k ws)
  parts_own k [] = refl
  parts_own k (w ∷ ws) = both_true _ _ (field_owned k None w) (parts_own (k + 1) ws)

  struct_owns : (fs : Fields) → Own (struct_fields Γ fs)
  struct_owns fields.Unit = refl
  struct_owns (fields.Tuple fs) = fields_own 0 fs
  struct_owns (fields.Named fs) = fields_own 0 fs

  variant_owns : (fs : VariantFields) → Own (variant_fields Γ fs)
  variant_owns parts.Unit = refl
  variant_owns (parts.Tuple ws) = parts_own 0 ws
  variant_owns (parts.Named fs) = fields_own 0 fs

  variants_own : (vs : List Variant) (k : ℕ) (v : VariantDecl) → slice_get (variants_of Γ vs) k ≡ Some v → Own v.fields
  variants_own [] k v e = absurd (cc)
  variants_own (x ∷ vs) zero v e = let same : record { name = x.name.name; kind = variant_kind x.fields; fields = variant_fields Γ x.fields } ≡ v = cc in subst (λ (y : VariantDecl). Own y.fields) same (variant_owns x.fields)
  variants_own (x ∷ vs) (suc k) v e = variants_own vs k v e

-- ---- the declared types of a source

no_names : (ls : List Name) → length ls ≡ 0 → ls ≡ []
no_names [] e = refl
no_names (x ∷ ls) e = absurd (cc)

module _ (is : List Item) where
  abbrev ds : List AdtDecl
  ds = declared_types is

  params_owned : (m n : ℕ) → are_owned ds (params_from m n) ≡ true
  params_owned zero n = refl
  params_owned (suc m) n = params_owned m (suc n)

  own_owned : (n : ℕ) (gs : List GenericParam) (t : Ty) → lifetimes_at ds n ≡ true → Some (own_type n gs) ≡ Some t → is_owned ds t ≡ true
  own_owned n gs t h e =
      let same : own_type n gs ≡ t = cc in
      subst (λ u. is_owned ds u ≡ true) same (both_true (lifetimes_at ds n) _ h (params_owned (length (parameters_of gs)) 0))

  scope_free : (n : ℕ) (gs : List GenericParam) → length (lifetimes_of gs) ≡ 0 → lifetimes_at ds n ≡ true → IsFree ds (item_scope (heads is) n gs)
  scope_free n gs bare h = record { lifetimes = no_names (lifetimes_of gs) bare; itself = λ t e. own_owned n gs t h e; same = same_lifetimes is }

  -- where the type of the number has no lifetimes, the fields of each of its variants hold no references
  abbrev Frees : ℕ → AdtDecl → Type 0
  Frees n d = d.regions ≡ 0 → lifetimes_at ds n ≡ true → (k : ℕ) (v : VariantDecl) → slice_get d.variants k ≡ Some v → are_owned ds (tys_of (map field_ty v.fields)) ≡ true

  struct_frees : (n : ℕ) (as' : List Attribute) (s : Struct) → Frees n (decl_of s.name s.generics true as' (record { name = s.name.name; kind = struct_kind s.fields; fields = struct_fields (item_scope (heads is) n s.generics) s.fields } ∷ []))
  struct_frees n as' s bare h zero v e =
      let same : record { name = s.name.name; kind = struct_kind s.fields; fields = struct_fields (item_scope (heads is) n s.generics) s.fields } ≡ v = cc in
      subst (λ (y : VariantDecl). are_owned ds (tys_of (map field_ty y.fields)) ≡ true) same (struct_owns ds (item_scope (heads is) n s.generics) (scope_free n s.generics bare h) s.fields)
  struct_frees n as' s bare h (suc k) v e = absurd (cc)

  enum_frees : (n : ℕ) (as' : List Attribute) (x : Enum) → Frees n (decl_of x.name x.generics false as' (variants_of (item_scope (heads is) n x.generics) x.variants))
  enum_frees n as' x bare h k v e = variants_own ds (item_scope (heads is) n x.generics) (scope_free n x.generics bare h) x.variants k v e

  frees_at : (m n : ℕ) (d c : AdtDecl) → m ≡ n → Some d ≡ Some c → Frees m d → Frees n c
  frees_at m n d c p e h = let same : d ≡ c = cc in subst (λ k. Frees k c) p (subst (Frees m) same h)

  frees_step : (n : ℕ) (as' : List Attribute) (node : ItemNode) (rest : List AdtDecl) → ((k : ℕ) (d : AdtDecl) → slice_get rest k ≡ Some d → Frees (n + takes node + k) d)
      → (k : ℕ) (d : AdtDecl) → slice_get (with_some (declared_type (heads is) n as' node) rest) k ≡ Some d → Frees (n + k) d
  frees_step n as' (item.Struct s) rest h zero d e = frees_at n (n + 0) _ d (omega arith) e (struct_frees n as' s)
  frees_step n as' (item.Struct s) rest h (suc k) d e = subst (λ m. Frees m d) (omega arith) (h k d e)
  frees_step n as' (item.Enum x) rest h zero d e = frees_at n (n + 0) _ d (omega arith) e (enum_frees n as' x)
  frees_step n as' (item.Enum x) rest h (suc k) d e = subst (λ m. Frees m d) (omega arith) (h k d e)
  frees_step n as' (item.Function f) rest h k d e = subst (λ m. Frees m d) (omega arith) (h k d e)
  frees_step n as' (item.Trait t) rest h k d e = subst (λ m. Frees m d) (omega arith) (h k d e)
  frees_step n as' (item.Impl m) rest h k d e = subst (λ x. Frees x d) (omega arith) (h k d e)
  frees_step n as' item.Use rest h k d e = subst (λ m. Frees m d) (omega arith) (h k d e)
  frees_step n as' item.ExternCrate rest h k d e = subst (λ m. Frees m d) (omega arith) (h k d e)

  frees_from : (n : ℕ) (js : List Item) (k : ℕ) (d : AdtDecl) → slice_get (types_from (heads is) n js) k ≡ Some d → Frees (n + k) d
  frees_from n [] k d e = absurd (cc)
  frees_from n (i ∷ js) k d e = frees_step n i.attributes i.node (types_from (heads is) (n + takes i.node) js) (frees_from (n + takes i.node) js) k d e

  owned_same : (v w : VariantDecl) → Some v ≡ Some w → are_owned ds (tys_of (map field_ty v.fields)) ≡ true → are_owned ds (tys_of (map field_ty w.fields)) ≡ true
  owned_same v w e h = let same : v ≡ w = cc in subst (λ (y : VariantDecl). are_owned ds (tys_of (map field_ty y.fields)) ≡ true) same h

  option_frees : Frees 0 option_type
  option_frees bare h zero v e = owned_same _ v e refl
  option_frees bare h (suc zero) v e = owned_same _ v e refl
  option_frees bare h (suc (suc k)) v e = absurd (cc)

  all_free : (front : List AdtDecl) → front ≡ prelude is → (d : ℕ) (c : AdtDecl) → slice_get (front ++ types_from (heads is) (length front) is) d ≡ Some c → Frees d c
  all_free front at d c e = by (declares_option is) front (at ∙ refl) d c e
    where
      by : (b : Bool) (front : List AdtDecl) → front ≡ (if b then [] else option_type ∷ []) → (d : ℕ) (c : AdtDecl) → slice_get (front ++ types_from (heads is) (length front) is) d ≡ Some c → Frees d c
      by true [] p d c e = subst (λ m. Frees m c) (omega arith) (frees_from 0 is d c e)
      by true (x ∷ front) p d c e = absurd (cc)
      by false [] p d c e = absurd (cc)
      by false (x ∷ front) p zero c e = let first : option_type ≡ x = cc in frees_at 0 0 option_type c refl (ap Some first ∙ e) option_frees
      by false (x ∷ []) p (suc d) c e = subst (λ m. Frees m c) (omega arith) (frees_from 1 is d c e)
      by false (x ∷ y ∷ front) p (suc d) c e = absurd (cc)

in_front : (is : List Item) (d : ℕ) (c : AdtDecl) → slice_get (declared_types is) d ≡ Some c → slice_get (prelude is ++ types_from (heads is) (length (prelude is)) is) d ≡ Some c
unfolding declared_types
in_front is d c e = e

pub fields_are_owned : (is : List Item) (d : ℕ) (c : AdtDecl) (k : ℕ) (v : VariantDecl) → slice_get (declared_types is) d ≡ Some c → c.regions ≡ 0 → slice_get c.variants k ≡ Some v
    → are_owned (declared_types is) (tys_of (map field_ty v.fields)) ≡ true
fields_are_owned is d c k v e bare q = all_free is (prelude is) refl d c (in_front is d c e) bare (ap has_no_lifetimes e ∙ ap (λ n. n == 0) bare) k v q
