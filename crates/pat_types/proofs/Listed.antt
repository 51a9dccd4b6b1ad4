-- The names of a pattern are listed, each once.
use Rattle.std.proofs.Common.{◌≡◌, ◌∙◌, ℕ, zero, suc, ℤ, ◌==◌, ◌&&◌, ◌||◌, Bool, true, false, List, [], ◌∷◌, ◌++◌, length, Option, Some, None, Result, Ok, Err, refl, ap, sym, subst, arith}
use Rattle.std.proofs.lemmas.Bool.Decides.{nat_tests}
use Rattle.std.proofs.lemmas.List.{append_assoc}
use Rattle.std.specs.Prelude.{slice_get, slice_set, if◌then◌else◌}
use Rattle.text_core.specs.declared.refusal.SourceError.{SourceError}
use Rattle.text_core.specs.declared.span.Span.{Span}
use Rattle.source_kinds.specs.declared.kinds.IntKind.{IntKind}
use Rattle.source_kinds.specs.Range.{fits as in_range}
use Rattle.logic_term.specs.declared.declaration.AdtDecl.{AdtDecl}
use Rattle.logic_term.specs.declared.declaration.FieldDecl.{FieldDecl}
use Rattle.logic_term.specs.declared.declaration.VariantKind.TheVariants.{Named, Numbered, Unit as Alone}
use Rattle.logic_term.specs.declared.pattern.BindingKind.{BindingKind}
use Rattle.logic_term.specs.declared.pattern.BindingKind.TheVariants.{Value, Shared, Unique}
use Rattle.logic_term.specs.Pattern.{Pat, Pats, wild, bound, literal, truth, shape, no_pats, and_pat}
use Rattle.logic_term.specs.PatternView.{pats_of}
use Rattle.logic_term.specs.Sort.{nth_ty}
use Rattle.logic_term.specs.Ty.{Ty, Tys, int, bool, math_int, no_tys, and_ty}
use Rattle.source_trees.specs.declared.path.PathNode.{PathNode}
use Rattle.source_trees.specs.declared.path.Segment.{Segment}
use Rattle.source_trees.specs.Pat as P
use Rattle.constructors.specs.Constructors.{constructor_named, constructor_of}
use Rattle.constructors.proofs.Accepted as accepted
use Rattle.pat_types.specs.declared.names.BoundName.{BoundName}
use Rattle.pat_types.specs.Answers.{◌>>=◌, mismatch, double_name}
use Rattle.pat_types.specs.Laws.{AreDistinct, BindsAmong, AllBindAmong}
use Rattle.pat_types.specs.PatternTyping.{seen, bound_name, is_bound, binds, binds_mutable, may_be, integer_at, truth_at, plain, Maker, tuple_maker, makes, shaped, alone, makes_values, mutable_at, name_bound, path_at, Fields, wildcards, no_fields, with_field, field_of, all_given, complete, typed, typed_parts, typed_fields}

abbrev pub Outcome : Type 0
Outcome = Pat × List BoundName

-- behind these names those are listed, each once, and all that binds is among them
pub record Lists (xs ys : List BoundName) (Binds : List BoundName → Type 0) : Type 0 where
  pub distinct : AreDistinct ys
  pub further : (zs : List BoundName) × (ys ≡ xs ++ zs)
  pub binds : Binds ys

-- ---- more names

among_more : (xs zs : List BoundName) (i : ℕ) (y : BoundName) → slice_get xs i ≡ Some y → slice_get (xs ++ zs) i ≡ Some y
among_more [] zs i y h = absurd (cc)
among_more (x ∷ xs) zs zero y h = h
among_more (x ∷ xs) zs (suc i) y h = among_more xs zs i y h

mutual
  binds_more : (xs ys zs : List BoundName) (p : Pat) → ys ≡ xs ++ zs → BindsAmong xs p → BindsAmong ys p
  binds_more xs ys zs (wild t) e h = tt
  binds_more xs ys zs (bound t x k) e h = (h.0, h.1, subst (λ vs. slice_get vs h.1 ≡ Some h.0) (sym e) (among_more xs zs h.1 h.0 h.2), h.3, h.4)
  binds_more xs ys zs (literal t k z) e h = tt
  binds_more xs ys zs (truth t b) e h = tt
  binds_more xs ys zs (shape t c ps) e h = all_bind_more xs ys zs ps e h

  all_bind_more : (xs ys zs : List BoundName) (ps : Pats) → ys ≡ xs ++ zs → AllBindAmong xs ps → AllBindAmong ys ps
  all_bind_more xs ys zs no_pats e h = tt
  all_bind_more xs ys zs (and_pat p ps) e h = (binds_more xs ys zs p e h.0, all_bind_more xs ys zs ps e h.1)

-- ---- names

-- another name behind these
not_bound : (x y : BoundName) (xs : List BoundName) → (y.name.0 == x.name.0) ≡ false → is_bound x.name xs ≡ false → is_bound x.name (xs ++ y ∷ []) ≡ false
not_bound x y [] e h = rw e refl
not_bound x y (z ∷ xs) e h = by (z.name.0 == x.name.0) (λ p. not_bound x y xs e p) h
  where
    by : (b : Bool) → (is_bound x.name xs ≡ false → is_bound x.name (xs ++ y ∷ []) ≡ false) → (if b then true else is_bound x.name xs) ≡ false → (if b then true else is_bound x.name (xs ++ y ∷ [])) ≡ false
    by true rest p = absurd (cc)
    by false rest p = rest p

first_apart : (x y : BoundName) (xs : List BoundName) → is_bound y.name (x ∷ xs) ≡ false → ((x.name.0 == y.name.0) ≡ false) × (is_bound y.name xs ≡ false)
first_apart x y xs h = by (x.name.0 == y.name.0) refl h
  where
    by : (b : Bool) → (x.name.0 == y.name.0) ≡ b → (if b then true else is_bound y.name xs) ≡ false → ((x.name.0 == y.name.0) ≡ false) × (is_bound y.name xs ≡ false)
    by true e p = absurd (cc)
    by false e p = (e, p)

flipped : (m n : ℕ) → (m == n) ≡ false → (n == m) ≡ false
flipped m n h = grind (arith, nat_tests)

distinct_more : (xs : List BoundName) (y : BoundName) → AreDistinct xs → is_bound y.name xs ≡ false → AreDistinct (xs ++ y ∷ [])
distinct_more [] y d h = (refl, tt)
distinct_more (x ∷ xs) y d h =
    let apart = first_apart x y xs h in
    (not_bound x y xs (flipped x.name.0 y.name.0 apart.0) d.0, distinct_more xs y d.1 apart.1)

at_end : (xs : List BoundName) (y : BoundName) → slice_get (xs ++ y ∷ []) (length xs) ≡ Some y
at_end [] y = refl
at_end (x ∷ xs) y = at_end xs y

abbrev pub ListsOf : List BoundName → Outcome → Type 0
ListsOf xs a = Lists xs a.1 (λ ys. BindsAmong ys a.0)

binds_lists : (m : BindingKind) (mut : Bool) (t : Ty) (xs : List BoundName) (x : Segment) (a : Outcome) → AreDistinct xs → binds m mut t xs x ≡ Ok a → ListsOf xs a
binds_lists m mut t xs x a d h = by (is_bound x.name xs) refl h
  where
    y : BoundName
    y = bound_name m mut t x

    by : (b : Bool) → is_bound x.name xs ≡ b → (if b then Err (double_name x.span) else accepted.yes (bound t x.name m, xs ++ y ∷ [])) ≡ Ok a → ListsOf xs a
    by true e p = absurd (cc)
    by false e p = subst (ListsOf xs) (accepted.same_ok (bound t x.name m, xs ++ y ∷ []) a p) (record { distinct = distinct_more xs y d e; further = (y ∷ [], refl); binds = (y, length xs, at_end xs y, refl, refl) })

-- nothing is bound
nothing_more : (xs : List BoundName) (p : Pat) → AreDistinct xs → BindsAmong xs p → ListsOf xs (p, xs)
nothing_more xs p d b = record { distinct = d; further = ([], sym (append_nil xs)); binds = b }
  where
    append_nil : (ys : List BoundName) → ys ++ [] ≡ ys
    append_nil [] = refl
    append_nil (y ∷ ys) = ap (λ zs. y ∷ zs) (append_nil ys)

mutable_lists : (m : BindingKind) (s : Span) (t : Ty) (xs : List BoundName) (x : Segment) (a : Outcome) → AreDistinct xs → binds_mutable m s t xs x ≡ Ok a → ListsOf xs a
mutable_lists Value s t xs x a d h = binds_lists Value true t xs x a d h
mutable_lists Shared s t xs x a d h = absurd (cc)
mutable_lists Unique s t xs x a d h = absurd (cc)

unmade_lists : (ds : List AdtDecl) (m : BindingKind) (s : Span) (t : Ty) (xs : List BoundName) (x : Segment) (a : Outcome) → AreDistinct xs → mutable_at ds m s t xs x ≡ Ok a → ListsOf xs a
unmade_lists ds m s t xs x a d h = by (makes_values (constructor_named ds x.name)) h
  where
    by : (b : Bool) → (if b then Err (mismatch s) else binds_mutable m s t xs x) ≡ Ok a → ListsOf xs a
    by true p = absurd (cc)
    by false p = mutable_lists m s t xs x a d p

plain_lists : (xs : List BoundName) (r : Result Pat SourceError) (a : Outcome) → AreDistinct xs → ((p : Pat) → r ≡ Ok p → BindsAmong xs p) → (r >>= plain xs) ≡ Ok a → ListsOf xs a
plain_lists xs r a d f h =
    let b = accepted.bound r (plain xs) a h in
    subst (ListsOf xs) (accepted.same_ok (b.0, xs) a b.2) (nothing_more xs b.0 d (f b.0 b.1))

integer_binds : (s : Span) (t u : Ty) (z : ℤ) (k : Option IntKind) (xs : List BoundName) (p : Pat) → integer_at s t u z k ≡ Ok p → BindsAmong xs p
integer_binds s t (int j) z k xs p h =
    let b = accepted.held (may_be j k && in_range j z) (accepted.yes (literal t (Some j) z)) (mismatch s) p h in
    subst (BindsAmong xs) (accepted.same_ok (literal t (Some j) z) p b.1) tt
integer_binds s t math_int z None xs p h = subst (BindsAmong xs) (accepted.same_ok (literal t None z) p h) tt
integer_binds s t u z k xs p h = absurd (cc)

truth_binds : (s : Span) (t u : Ty) (b : Bool) (xs : List BoundName) (p : Pat) → truth_at s t u b ≡ Ok p → BindsAmong xs p
truth_binds s t bool b xs p h = subst (BindsAmong xs) (accepted.same_ok (truth t b) p h) tt
truth_binds s t u b xs p h = absurd (cc)

-- ---- constructors

abbrev PartsList : List BoundName → List Pat × List BoundName → Type 0
PartsList xs a = Lists xs a.1 (λ ys. AllBindAmong ys (pats_of a.0))

shape_lists : (xs : List BoundName) (t : Ty) (k : Maker) (b : List Pat × List BoundName) (a : Outcome) → PartsList xs b → shaped t k.0 b ≡ Ok a → ListsOf xs a
shape_lists xs t k b a l h = subst (ListsOf xs) (accepted.same_ok (shape t k.0 (pats_of b.0), b.1) a h) (record { distinct = l.distinct; further = l.further; binds = l.binds })

alone_lists : (s : Span) (t : Ty) (xs : List BoundName) (k : Maker) (a : Outcome) → AreDistinct xs → alone s t xs k ≡ Ok a → ListsOf xs a
alone_lists s t xs (c, no_tys) a d h = subst (ListsOf xs) (accepted.same_ok (shape t c no_pats, xs) a h) (nothing_more xs (shape t c no_pats) d tt)
alone_lists s t xs (c, and_ty u us) a d h = absurd (cc)

path_lists : (ds : List AdtDecl) (m : BindingKind) (s : Span) (t : Ty) (xs : List BoundName) (p : PathNode) (o : Option Segment) (a : Outcome) → AreDistinct xs → path_at ds m s t xs p o ≡ Ok a → ListsOf xs a
path_lists ds m s t xs p (Some x) a d h = binds_lists m false t xs x a d h
path_lists ds m s t xs p None a d h =
    let c = accepted.bound (constructor_of ds s p) (λ c. makes s Alone (seen m t).1 c >>= alone s t xs) a h in
    let k = accepted.bound (makes s Alone (seen m t).1 c.0) (alone s t xs) a c.2 in
    alone_lists s t xs k.0 a d k.2

-- ---- lists of patterns

more_bind : (xs : List BoundName) (ps : List Pat) (p : Pat) → AllBindAmong xs (pats_of ps) → BindsAmong xs p → AllBindAmong xs (pats_of (ps ++ p ∷ []))
more_bind xs [] p h q = (q, tt)
more_bind xs (x ∷ ps) p h q = (h.0, more_bind xs ps p h.1 q)

wildcards_bind : (xs : List BoundName) (ts : Tys) → AllBindAmong xs (pats_of (wildcards ts))
wildcards_bind xs no_tys = tt
wildcards_bind xs (and_ty t ts) = (tt, wildcards_bind xs ts)

put_binds : (xs : List BoundName) (ps : List Pat) (k : ℕ) (p : Pat) → AllBindAmong xs (pats_of ps) → BindsAmong xs p → AllBindAmong xs (pats_of (slice_set ps k p))
put_binds xs [] k p h q = h
put_binds xs (x ∷ ps) zero p h q = (q, h.1)
put_binds xs (x ∷ ps) (suc k) p h q = (h.0, put_binds xs ps k p h.1 q)

complete_same : (s : Span) (rest : Bool) (f : Fields × List BoundName) (a : List Pat × List BoundName) → complete s rest f ≡ Ok a → (f.0.made, f.1) ≡ a
complete_same s rest f a h =
    let b = accepted.held (rest || all_given f.0.given) (accepted.yes (f.0.made, f.1)) (mismatch s) a h in
    accepted.same_ok (f.0.made, f.1) a b.1

-- one list behind another
further_on : (xs ys ws : List BoundName) → ((zs : List BoundName) × (ys ≡ xs ++ zs)) → ((zs : List BoundName) × (ws ≡ ys ++ zs)) → (zs : List BoundName) × (ws ≡ xs ++ zs)
further_on xs ys ws f g = (f.0 ++ g.0, g.1 ∙ ap (λ vs. vs ++ g.0) f.1 ∙ append_assoc xs f.0 g.0)

abbrev FieldsList : List BoundName → Fields × List BoundName → Type 0
FieldsList xs a = Lists xs a.1 (λ ys. AllBindAmong ys (pats_of a.0.made))

mutual
  pub lists : (ds : List AdtDecl) (m : BindingKind) (xs : List BoundName) (p : P.Pat) (t : Ty) (a : Outcome) → AreDistinct xs → typed ds m xs p t ≡ Ok a → ListsOf xs a
  lists ds m xs (P.any s) t a d h = subst (ListsOf xs) (accepted.same_ok (wild t, xs) a h) (nothing_more xs (wild t) d tt)
  lists ds m xs (P.mutable s x) t a d h = unmade_lists ds m s t xs x a d h
  lists ds m xs (P.integer s z k) t a d h = plain_lists xs (integer_at s t (seen m t).1 z k) a d (integer_binds s t (seen m t).1 z k xs) h
  lists ds m xs (P.truth s b) t a d h = plain_lists xs (truth_at s t (seen m t).1 b) a d (truth_binds s t (seen m t).1 b xs) h
  lists ds m xs (P.path s p) t a d h = path_lists ds m s t xs p.node (name_bound ds p.node) a d h
  lists ds m xs (P.tuple s ps) t a d h =
      let k = accepted.bound (tuple_maker s (seen m t).1) (λ k. typed_parts ds (seen m t).0 s [] xs ps k.1 >>= shaped t k.0) a h in
      let b = accepted.bound (typed_parts ds (seen m t).0 s [] xs ps k.0.1) (shaped t k.0.0) a k.2 in
      shape_lists xs t k.0 b.0 a (parts_list ds (seen m t).0 s [] xs ps k.0.1 b.0 d tt b.1) b.2
  lists ds m xs (P.parts s p ps) t a d h =
      let c = accepted.bound (constructor_of ds s p.node) (λ c. makes s Numbered (seen m t).1 c >>= (λ k. typed_parts ds (seen m t).0 s [] xs ps k.1 >>= shaped t k.0)) a h in
      let k = accepted.bound (makes s Numbered (seen m t).1 c.0) (λ k. typed_parts ds (seen m t).0 s [] xs ps k.1 >>= shaped t k.0) a c.2 in
      let b = accepted.bound (typed_parts ds (seen m t).0 s [] xs ps k.0.1) (shaped t k.0.0) a k.2 in
      shape_lists xs t k.0 b.0 a (parts_list ds (seen m t).0 s [] xs ps k.0.1 b.0 d tt b.1) b.2
  lists ds m xs (P.fields s p ps rest) t a d h =
      let c = accepted.bound (constructor_of ds s p.node) (λ c. makes s Named (seen m t).1 c >>= (λ k. typed_fields ds (seen m t).0 c.fields k.1 (no_fields c.fields k.1) xs ps >>= (λ f. complete s rest f >>= shaped t k.0))) a h in
      let k = accepted.bound (makes s Named (seen m t).1 c.0) (λ k. typed_fields ds (seen m t).0 c.0.fields k.1 (no_fields c.0.fields k.1) xs ps >>= (λ f. complete s rest f >>= shaped t k.0)) a c.2 in
      let f = accepted.bound (typed_fields ds (seen m t).0 c.0.fields k.0.1 (no_fields c.0.fields k.0.1) xs ps) (λ f. complete s rest f >>= shaped t k.0.0) a k.2 in
      let b = accepted.bound (complete s rest f.0) (shaped t k.0.0) a f.2 in
      let l = fields_list ds (seen m t).0 c.0.fields k.0.1 (no_fields c.0.fields k.0.1) xs ps f.0 d (wildcards_bind xs k.0.1) f.1 in
      shape_lists xs t k.0 b.0 a (subst (PartsList xs) (complete_same s rest f.0 b.0 b.1) (record { distinct = l.distinct; further = l.further; binds = l.binds })) b.2

  parts_list : (ds : List AdtDecl) (m : BindingKind) (s : Span) (made : List Pat) (xs : List BoundName) (ps : P.Pats) (ts : Tys) (a : List Pat × List BoundName)
      → AreDistinct xs → AllBindAmong xs (pats_of made) → typed_parts ds m s made xs ps ts ≡ Ok a → PartsList xs a
  parts_list ds m s made xs P.none no_tys a d b h = subst (PartsList xs) (accepted.same_ok (made, xs) a h) (record { distinct = d; further = (nothing_more xs (wild bool) d tt).further; binds = b })
  parts_list ds m s made xs (P.more p ps) (and_ty t ts) a d b h =
      let one = accepted.bound (typed ds m xs p t) (λ (b : Outcome). typed_parts ds m s (made ++ b.0 ∷ []) b.1 ps ts) a h in
      let l = lists ds m xs p t one.0 d one.1 in
      let so_far = all_bind_more xs one.0.1 l.further.0 (pats_of made) l.further.1 b in
      let r = parts_list ds m s (made ++ one.0.0 ∷ []) one.0.1 ps ts a l.distinct (more_bind one.0.1 made one.0.0 so_far l.binds) one.2 in
      record { distinct = r.distinct; further = further_on xs one.0.1 a.1 l.further r.further; binds = r.binds }
  parts_list ds m s made xs P.none (and_ty t ts) a d b h = absurd (cc)
  parts_list ds m s made xs (P.more p ps) no_tys a d b h = absurd (cc)

  fields_list : (ds : List AdtDecl) (m : BindingKind) (fs : List FieldDecl) (ts : Tys) (f : Fields) (xs : List BoundName) (ps : P.FieldPats) (a : Fields × List BoundName)
      → AreDistinct xs → AllBindAmong xs (pats_of f.made) → typed_fields ds m fs ts f xs ps ≡ Ok a → FieldsList xs a
  fields_list ds m fs ts f xs P.no_fields a d b h = subst (FieldsList xs) (accepted.same_ok (f, xs) a h) (record { distinct = d; further = (nothing_more xs (wild bool) d tt).further; binds = b })
  fields_list ds m fs ts f xs (P.with_field r x p ps) a d b h =
      let k = accepted.bound (field_of fs f x) (λ k. typed ds m xs p (nth_ty ts k) >>= (λ (b : Outcome). typed_fields ds m fs ts (with_field f k b.0) b.1 ps)) a h in
      let one = accepted.bound (typed ds m xs p (nth_ty ts k.0)) (λ (b : Outcome). typed_fields ds m fs ts (with_field f k.0 b.0) b.1 ps) a k.2 in
      let l = lists ds m xs p (nth_ty ts k.0) one.0 d one.1 in
      let so_far = all_bind_more xs one.0.1 l.further.0 (pats_of f.made) l.further.1 b in
      let q = fields_list ds m fs ts (with_field f k.0 one.0.0) one.0.1 ps a l.distinct (put_binds one.0.1 f.made k.0 one.0.0 so_far l.binds) one.2 in
      record { distinct = q.distinct; further = further_on xs one.0.1 a.1 l.further q.further; binds = q.binds }
