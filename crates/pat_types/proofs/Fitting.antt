-- What a written pattern comes to at a type is a pattern of the type.
use Rattle.std.proofs.Common.{◌≡◌, ◌∙◌, ℕ, zero, suc, ℤ, ◌==◌, ◌&&◌, ◌||◌, Bool, true, false, List, [], ◌∷◌, ◌++◌, map, Option, Some, None, Result, Ok, Err, refl, ap, sym, subst, arith}
use Rattle.std.proofs.lemmas.Bool.Decides.{nat_tests}
use Rattle.std.specs.Prelude.{slice_set, if◌then◌else◌}
use Rattle.text_core.specs.declared.refusal.SourceError.{SourceError}
use Rattle.text_core.specs.declared.span.Span.{Span}
use Rattle.source_kinds.specs.declared.kinds.IntKind.{IntKind}
use Rattle.source_kinds.specs.Range.{fits as in_range}
use Rattle.logic_term.specs.declared.declaration.AdtDecl.{AdtDecl}
use Rattle.logic_term.specs.declared.declaration.FieldDecl.{FieldDecl}
use Rattle.logic_term.specs.declared.declaration.VariantKind.{VariantKind}
use Rattle.logic_term.specs.declared.declaration.VariantKind.TheVariants.{Named, Numbered, Unit as Alone}
use Rattle.logic_term.specs.declared.kinds.AdtId.{AdtId}
use Rattle.logic_term.specs.declared.kinds.Ctor.TheVariants.{Tuple, Variant}
use Rattle.logic_term.specs.declared.pattern.BindingKind.{BindingKind}
use Rattle.logic_term.specs.declared.pattern.BindingKind.TheVariants.{Value, Shared, Unique}
use Rattle.logic_term.specs.Pattern.{Pat, wild, bound, literal, truth, shape}
use Rattle.logic_term.specs.PatternView.{pats_of}
use Rattle.logic_term.specs.Sort.{Declarations, instances, nth_ty}
use Rattle.logic_term.specs.Theory.{field_ty}
use Rattle.logic_term.specs.Ty.{Ty, Tys, int, bool, math_int, tuple, adt, boxed, shared, unique, param, closure, viewed, snapshot, no_tys, and_ty}
use Rattle.logic_term.specs.TyView.{tys_of}
use Rattle.source_trees.specs.declared.path.PathNode.{PathNode}
use Rattle.source_trees.specs.declared.path.Segment.{Segment}
use Rattle.source_trees.specs.Pat as P
use Rattle.constructors.specs.Constructors.{Constructor, constructor_named, constructor_of, same_kind}
use Rattle.constructors.specs.Laws.{IsDeclared}
use Rattle.constructors.proofs.Accepted as accepted
use Rattle.constructors.proofs.Declaration.{constructor_found}
use Rattle.pat_check.specs.Typed.{IsPat, ArePats, PartsOf, core, fields_in}
use Rattle.pat_types.specs.declared.names.BoundName.{BoundName}
use Rattle.pat_types.specs.Answers.{◌>>=◌, mismatch, double_name}
use Rattle.pat_types.specs.PatternTyping.{seen, behind_unique, bound_name, is_bound, binds, binds_mutable, may_be, integer_at, truth_at, plain, Maker, tuple_maker, makes, shaped, alone, makes_values, mutable_at, name_bound, path_at, Fields, wildcards, no_fields, with_field, field_of, all_given, complete, typed, typed_parts, typed_fields}
use Rattle.pat_types.proofs.TypeLists.{after, after_more, after_all}

abbrev Outcome : Type 0
Outcome = Pat × List BoundName

-- ---- references

-- what is seen through references is what is behind them
pub core_seen : (m : BindingKind) (t : Ty) → core (seen m t).1 ≡ core t
core_seen m (shared r t) = core_seen Shared t
core_seen m (unique r t) = core_seen (behind_unique m) t
core_seen m (int k) = refl
core_seen m bool = refl
core_seen m math_int = refl
core_seen m (tuple ts) = refl
core_seen m (adt d rs ts) = refl
core_seen m (boxed t) = refl
core_seen m (param n) = refl
core_seen m (closure n ts cs k ps r) = refl
core_seen m (viewed t) = refl
core_seen m (snapshot t) = refl

-- ---- names and literals

binds_fits : (Δ : Declarations) (m : BindingKind) (mut : Bool) (t : Ty) (xs : List BoundName) (x : Segment) (a : Outcome) → binds m mut t xs x ≡ Ok a → IsPat Δ a.0 t
binds_fits Δ m mut t xs x a h = by (is_bound x.name xs) h
  where
    by : (b : Bool) → (if b then Err (double_name x.span) else accepted.yes (bound t x.name m, xs ++ bound_name m mut t x ∷ [])) ≡ Ok a → IsPat Δ a.0 t
    by true p = absurd (cc)
    by false p = subst (λ (b : Outcome). IsPat Δ b.0 t) (accepted.same_ok (bound t x.name m, xs ++ bound_name m mut t x ∷ []) a p) tt

mutable_fits : (Δ : Declarations) (m : BindingKind) (s : Span) (t : Ty) (xs : List BoundName) (x : Segment) (a : Outcome) → binds_mutable m s t xs x ≡ Ok a → IsPat Δ a.0 t
mutable_fits Δ Value s t xs x a h = binds_fits Δ Value true t xs x a h
mutable_fits Δ Shared s t xs x a h = absurd (cc)
mutable_fits Δ Unique s t xs x a h = absurd (cc)

unmade_fits : (ds : List AdtDecl) (m : BindingKind) (s : Span) (t : Ty) (xs : List BoundName) (x : Segment) (a : Outcome) → mutable_at ds m s t xs x ≡ Ok a → IsPat (fields_in ds) a.0 t
unmade_fits ds m s t xs x a h = by (makes_values (constructor_named ds x.name)) h
  where
    by : (b : Bool) → (if b then Err (mismatch s) else binds_mutable m s t xs x) ≡ Ok a → IsPat (fields_in ds) a.0 t
    by true p = absurd (cc)
    by false p = mutable_fits (fields_in ds) m s t xs x a p

-- what is no more than a pattern
plain_fits : (Δ : Declarations) (t : Ty) (xs : List BoundName) (r : Result Pat SourceError) (a : Outcome) → ((p : Pat) → r ≡ Ok p → IsPat Δ p t) → (r >>= plain xs) ≡ Ok a → IsPat Δ a.0 t
plain_fits Δ t xs r a f h =
    let b = accepted.bound r (plain xs) a h in
    subst (λ (c : Outcome). IsPat Δ c.0 t) (accepted.same_ok (b.0, xs) a b.2) (f b.0 b.1)

both : (a b : Bool) → (a && b) ≡ true → (a ≡ true) × (b ≡ true)
both true b p = (refl, p)
both false b p = absurd (cc)

integer_fits : (Δ : Declarations) (s : Span) (t u : Ty) (z : ℤ) (k : Option IntKind) (p : Pat) → core u ≡ core t → integer_at s t u z k ≡ Ok p → IsPat Δ p t
integer_fits Δ s t (int j) z k p e h =
    let b = accepted.held (may_be j k && in_range j z) (accepted.yes (literal t (Some j) z)) (mismatch s) p h in
    subst (λ p. IsPat Δ p t) (accepted.same_ok (literal t (Some j) z) p b.1) (sym e, (both (may_be j k) (in_range j z) b.0).1)
integer_fits Δ s t math_int z None p e h = subst (λ p. IsPat Δ p t) (accepted.same_ok (literal t None z) p h) (sym e, refl)
integer_fits Δ s t u z k p e h = absurd (cc)

truth_fits : (Δ : Declarations) (s : Span) (t u : Ty) (b : Bool) (p : Pat) → core u ≡ core t → truth_at s t u b ≡ Ok p → IsPat Δ p t
truth_fits Δ s t bool b p e h = subst (λ p. IsPat Δ p t) (accepted.same_ok (truth t b) p h) (sym e)
truth_fits Δ s t u b p e h = absurd (cc)

-- ---- constructors

same_number : (m n : ℕ) → (m == n) ≡ true → m ≡ n
same_number m n h = grind (arith, nat_tests)

-- the constructor makes values of the type, of these parts
abbrev Makes : List AdtDecl → Ty → Maker → Type 0
Makes ds t k = PartsOf (fields_in ds) (core t) k.0 k.1

tuple_makes : (ds : List AdtDecl) (s : Span) (t u : Ty) (k : Maker) → core u ≡ core t → tuple_maker s u ≡ Ok k → Makes ds t k
tuple_makes ds s t (tuple ts) k e h = subst (Makes ds t) (accepted.same_ok (Tuple, ts) k h) (subst (λ c. PartsOf (fields_in ds) c Tuple ts) e refl)
tuple_makes ds s t u k e h = absurd (cc)

variant_makes : (ds : List AdtDecl) (s : Span) (v : VariantKind) (t u : Ty) (c : Constructor) (k : Maker) → core u ≡ core t → IsDeclared ds c → makes s v u c ≡ Ok k → Makes ds t k
variant_makes ds s v t (adt d rs ts) c k e found h =
    let fs : Tys = tys_of (map field_ty c.fields) in
    let b = accepted.held (same_kind v c.kind && (d.0 == c.number.0)) (accepted.yes (Variant c.number c.variant, instances ts fs)) (mismatch s) k h in
    let same : d ≡ c.number = ap (λ n. record { 0 = n }) (same_number d.0 c.number.0 (both (same_kind v c.kind) (d.0 == c.number.0) b.0).1) in
    let there : fields_in ds d c.variant ≡ Some fs = ap (λ (i : AdtId). fields_in ds i c.variant) same ∙ found in
    subst (Makes ds t) (accepted.same_ok (Variant c.number c.variant, instances ts fs) k b.1)
    (subst (λ t. PartsOf (fields_in ds) t (Variant c.number c.variant) (instances ts fs)) e (fs, same, there, refl))
variant_makes ds s v t u c k e found h = absurd (cc)

shape_fits : (ds : List AdtDecl) (t : Ty) (k : Maker) (b : List Pat × List BoundName) (a : Outcome) → Makes ds t k → ArePats (fields_in ds) (pats_of b.0) k.1 → shaped t k.0 b ≡ Ok a → IsPat (fields_in ds) a.0 t
shape_fits ds t k b a makes parts h = subst (λ (c : Outcome). IsPat (fields_in ds) c.0 t) (accepted.same_ok (shape t k.0 (pats_of b.0), b.1) a h) (k.1, makes, parts)

alone_fits : (ds : List AdtDecl) (s : Span) (t : Ty) (xs : List BoundName) (k : Maker) (a : Outcome) → Makes ds t k → alone s t xs k ≡ Ok a → IsPat (fields_in ds) a.0 t
alone_fits ds s t xs (c, no_tys) a makes h = shape_fits ds t (c, no_tys) ([], xs) a makes tt h
alone_fits ds s t xs (c, and_ty u us) a makes h = absurd (cc)

path_fits : (ds : List AdtDecl) (m : BindingKind) (s : Span) (t : Ty) (xs : List BoundName) (p : PathNode) (o : Option Segment) (a : Outcome) → path_at ds m s t xs p o ≡ Ok a → IsPat (fields_in ds) a.0 t
path_fits ds m s t xs p (Some x) a h = binds_fits (fields_in ds) m false t xs x a h
path_fits ds m s t xs p None a h =
    let c = accepted.bound (constructor_of ds s p) (λ c. makes s Alone (seen m t).1 c >>= alone s t xs) a h in
    let k = accepted.bound (makes s Alone (seen m t).1 c.0) (alone s t xs) a c.2 in
    alone_fits ds s t xs k.0 a (variant_makes ds s Alone t (seen m t).1 c.0 k.0 (core_seen m t) (constructor_found ds s p c.0 c.1) k.1) k.2

-- ---- lists of patterns

-- one more pattern
more_fit : (Δ : Declarations) (ps : List Pat) (ts : List Ty) (p : Pat) (t : Ty) → ArePats Δ (pats_of ps) (tys_of ts) → IsPat Δ p t → ArePats Δ (pats_of (ps ++ p ∷ [])) (tys_of (ts ++ t ∷ []))
more_fit Δ [] [] p t h q = (q, tt)
more_fit Δ [] (u ∷ ts) p t h q = absurd h
more_fit Δ (x ∷ ps) [] p t h q = absurd h
more_fit Δ (x ∷ ps) (u ∷ ts) p t h q = (h.0, more_fit Δ ps ts p t h.1 q)

wildcards_fit : (Δ : Declarations) (ts : Tys) → ArePats Δ (pats_of (wildcards ts)) ts
wildcards_fit Δ no_tys = tt
wildcards_fit Δ (and_ty t ts) = (tt, wildcards_fit Δ ts)

-- a pattern in the place of another
put_fits : (Δ : Declarations) (ps : List Pat) (ts : Tys) (k : ℕ) (p : Pat) → ArePats Δ (pats_of ps) ts → IsPat Δ p (nth_ty ts k) → ArePats Δ (pats_of (slice_set ps k p)) ts
put_fits Δ [] ts k p h q = h
put_fits Δ (x ∷ ps) no_tys k p h q = absurd h
put_fits Δ (x ∷ ps) (and_ty t ts) zero p h q = (q, h.1)
put_fits Δ (x ∷ ps) (and_ty t ts) (suc k) p h q = (h.0, put_fits Δ ps ts k p h.1 q)

complete_fits : (Δ : Declarations) (s : Span) (rest : Bool) (ts : Tys) (f : Fields × List BoundName) (a : List Pat × List BoundName) → ArePats Δ (pats_of f.0.made) ts → complete s rest f ≡ Ok a → ArePats Δ (pats_of a.0) ts
complete_fits Δ s rest ts f a fit h =
    let b = accepted.held (rest || all_given f.0.given) (accepted.yes (f.0.made, f.1)) (mismatch s) a h in
    subst (λ (c : List Pat × List BoundName). ArePats Δ (pats_of c.0) ts) (accepted.same_ok (f.0.made, f.1) a b.1) fit

-- ---- patterns

mutual
  pub fits : (ds : List AdtDecl) (m : BindingKind) (xs : List BoundName) (p : P.Pat) (t : Ty) (a : Outcome) → typed ds m xs p t ≡ Ok a → IsPat (fields_in ds) a.0 t
  fits ds m xs (P.any s) t a h = subst (λ (b : Outcome). IsPat (fields_in ds) b.0 t) (accepted.same_ok (wild t, xs) a h) tt
  fits ds m xs (P.mutable s x) t a h = unmade_fits ds m s t xs x a h
  fits ds m xs (P.integer s z k) t a h = plain_fits (fields_in ds) t xs (integer_at s t (seen m t).1 z k) a (λ p. integer_fits (fields_in ds) s t (seen m t).1 z k p (core_seen m t)) h
  fits ds m xs (P.truth s b) t a h = plain_fits (fields_in ds) t xs (truth_at s t (seen m t).1 b) a (λ p. truth_fits (fields_in ds) s t (seen m t).1 b p (core_seen m t)) h
  fits ds m xs (P.path s p) t a h = path_fits ds m s t xs p.node (name_bound ds p.node) a h
  fits ds m xs (P.tuple s ps) t a h =
      let k = accepted.bound (tuple_maker s (seen m t).1) (λ k. typed_parts ds (seen m t).0 s [] xs ps k.1 >>= shaped t k.0) a h in
      let b = accepted.bound (typed_parts ds (seen m t).0 s [] xs ps k.0.1) (shaped t k.0.0) a k.2 in
      shape_fits ds t k.0 b.0 a (tuple_makes ds s t (seen m t).1 k.0 (core_seen m t) k.1) (parts_fit ds (seen m t).0 s [] [] xs ps k.0.1 b.0 tt b.1) b.2
  fits ds m xs (P.parts s p ps) t a h =
      let c = accepted.bound (constructor_of ds s p.node) (λ c. makes s Numbered (seen m t).1 c >>= (λ k. typed_parts ds (seen m t).0 s [] xs ps k.1 >>= shaped t k.0)) a h in
      let k = accepted.bound (makes s Numbered (seen m t).1 c.0) (λ k. typed_parts ds (seen m t).0 s [] xs ps k.1 >>= shaped t k.0) a c.2 in
      let b = accepted.bound (typed_parts ds (seen m t).0 s [] xs ps k.0.1) (shaped t k.0.0) a k.2 in
      shape_fits ds t k.0 b.0 a
      (variant_makes ds s Numbered t (seen m t).1 c.0 k.0 (core_seen m t) (constructor_found ds s p.node c.0 c.1) k.1)
      (parts_fit ds (seen m t).0 s [] [] xs ps k.0.1 b.0 tt b.1) b.2
  fits ds m xs (P.fields s p ps rest) t a h =
      let c = accepted.bound (constructor_of ds s p.node) (λ c. makes s Named (seen m t).1 c >>= (λ k. typed_fields ds (seen m t).0 c.fields k.1 (no_fields c.fields k.1) xs ps >>= (λ f. complete s rest f >>= shaped t k.0))) a h in
      let k = accepted.bound (makes s Named (seen m t).1 c.0) (λ k. typed_fields ds (seen m t).0 c.0.fields k.1 (no_fields c.0.fields k.1) xs ps >>= (λ f. complete s rest f >>= shaped t k.0)) a c.2 in
      let f = accepted.bound (typed_fields ds (seen m t).0 c.0.fields k.0.1 (no_fields c.0.fields k.0.1) xs ps) (λ f. complete s rest f >>= shaped t k.0.0) a k.2 in
      let b = accepted.bound (complete s rest f.0) (shaped t k.0.0) a f.2 in
      shape_fits ds t k.0 b.0 a
      (variant_makes ds s Named t (seen m t).1 c.0 k.0 (core_seen m t) (constructor_found ds s p.node c.0 c.1) k.1)
      (complete_fits (fields_in ds) s rest k.0.1 f.0 b.0 (fields_fit ds (seen m t).0 c.0.fields k.0.1 (no_fields c.0.fields k.0.1) xs ps f.0 (wildcards_fit (fields_in ds) k.0.1) f.1) b.1) b.2

  -- behind parts of these types
  parts_fit : (ds : List AdtDecl) (m : BindingKind) (s : Span) (made : List Pat) (us : List Ty) (xs : List BoundName) (ps : P.Pats) (ts : Tys) (a : List Pat × List BoundName)
      → ArePats (fields_in ds) (pats_of made) (tys_of us) → typed_parts ds m s made xs ps ts ≡ Ok a → ArePats (fields_in ds) (pats_of a.0) (after us ts)
  parts_fit ds m s made us xs P.none no_tys a fit h =
      subst (λ (b : List Pat × List BoundName). ArePats (fields_in ds) (pats_of b.0) (after us no_tys)) (accepted.same_ok (made, xs) a h) (subst (ArePats (fields_in ds) (pats_of made)) (sym (after_all us)) fit)
  parts_fit ds m s made us xs (P.more p ps) (and_ty t ts) a fit h =
      let b = accepted.bound (typed ds m xs p t) (λ (b : Outcome). typed_parts ds m s (made ++ b.0 ∷ []) b.1 ps ts) a h in
      subst (ArePats (fields_in ds) (pats_of a.0)) (after_more us t ts)
      (parts_fit ds m s (made ++ b.0.0 ∷ []) (us ++ t ∷ []) b.0.1 ps ts a (more_fit (fields_in ds) made us b.0.0 t fit (fits ds m xs p t b.0 b.1)) b.2)
  parts_fit ds m s made us xs P.none (and_ty t ts) a fit h = absurd (cc)
  parts_fit ds m s made us xs (P.more p ps) no_tys a fit h = absurd (cc)

  fields_fit : (ds : List AdtDecl) (m : BindingKind) (fs : List FieldDecl) (ts : Tys) (f : Fields) (xs : List BoundName) (ps : P.FieldPats) (a : Fields × List BoundName)
      → ArePats (fields_in ds) (pats_of f.made) ts → typed_fields ds m fs ts f xs ps ≡ Ok a → ArePats (fields_in ds) (pats_of a.0.made) ts
  fields_fit ds m fs ts f xs P.no_fields a fit h = subst (λ (b : Fields × List BoundName). ArePats (fields_in ds) (pats_of b.0.made) ts) (accepted.same_ok (f, xs) a h) fit
  fields_fit ds m fs ts f xs (P.with_field r x p ps) a fit h =
      let k = accepted.bound (field_of fs f x) (λ k. typed ds m xs p (nth_ty ts k) >>= (λ (b : Outcome). typed_fields ds m fs ts (with_field f k b.0) b.1 ps)) a h in
      let b = accepted.bound (typed ds m xs p (nth_ty ts k.0)) (λ (b : Outcome). typed_fields ds m fs ts (with_field f k.0 b.0) b.1 ps) a k.2 in
      fields_fit ds m fs ts (with_field f k.0 b.0.0) b.0.1 ps a (put_fits (fields_in ds) f.made ts k.0 b.0.0 fit (fits ds m xs p (nth_ty ts k.0) b.0 b.1)) b.2
