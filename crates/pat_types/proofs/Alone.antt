-- A pattern without parts binds its own name and no other.
use Rattle.std.proofs.Common.{◌≡◌, ℤ, Bool, true, false, ◌&&◌, List, [], ◌∷◌, Option, Some, None, Result, Ok, Err, refl, subst}
use Rattle.std.specs.Prelude.{if◌then◌else◌}
use Rattle.text_core.specs.declared.refusal.SourceError.{SourceError}
use Rattle.text_core.specs.declared.span.Span.{Span}
use Rattle.source_kinds.specs.declared.kinds.IntKind.{IntKind}
use Rattle.source_kinds.specs.Range.{fits as in_range}
use Rattle.logic_term.specs.declared.declaration.AdtDecl.{AdtDecl}
use Rattle.logic_term.specs.declared.declaration.VariantKind.TheVariants.{Named, Numbered, Unit as Alone}
use Rattle.logic_term.specs.declared.pattern.BindingKind.{BindingKind}
use Rattle.logic_term.specs.declared.pattern.BindingKind.TheVariants.{Value, Shared, Unique}
use Rattle.logic_term.specs.Pattern.{Pat, wild, bound, literal, truth, shape, no_pats}
use Rattle.logic_term.specs.PatternView.{pats_of}
use Rattle.logic_term.specs.Ty.{Ty, int, bool, math_int, no_tys, and_ty}
use Rattle.source_trees.specs.declared.path.PathNode.{PathNode}
use Rattle.source_trees.specs.declared.path.Segment.{Segment}
use Rattle.source_trees.specs.Pat as P
use Rattle.constructors.specs.Constructors.{constructor_named, constructor_of}
use Rattle.constructors.proofs.Accepted as accepted
use Rattle.pat_types.specs.declared.names.BoundName.{BoundName}
use Rattle.pat_types.specs.Answers.{◌>>=◌, mismatch}
use Rattle.pat_types.specs.Laws.{BindsAlone}
use Rattle.pat_types.specs.PatternTyping.{seen, bound_name, binds, binds_mutable, may_be, integer_at, truth_at, plain, Maker, tuple_maker, makes, shaped, alone, makes_values, mutable_at, name_bound, path_at, no_fields, complete, typed, typed_parts, typed_fields}
use Rattle.pat_types.proofs.Listed.{Outcome}

abbrev BindsIts : Ty → Outcome → Type 0
BindsIts t a = BindsAlone t a.0 a.1

name_alone : (m : BindingKind) (mut : Bool) (t : Ty) (x : Segment) (a : Outcome) → binds m mut t [] x ≡ Ok a → BindsIts t a
name_alone m mut t x a h = subst (BindsIts t) (accepted.same_ok (bound t x.name m, bound_name m mut t x ∷ []) a h) (bound_name m mut t x, refl, refl)

mutable_alone : (m : BindingKind) (s : Span) (t : Ty) (x : Segment) (a : Outcome) → binds_mutable m s t [] x ≡ Ok a → BindsIts t a
mutable_alone Value s t x a h = name_alone Value true t x a h
mutable_alone Shared s t x a h = absurd (cc)
mutable_alone Unique s t x a h = absurd (cc)

unmade_alone : (ds : List AdtDecl) (m : BindingKind) (s : Span) (t : Ty) (x : Segment) (a : Outcome) → mutable_at ds m s t [] x ≡ Ok a → BindsIts t a
unmade_alone ds m s t x a h = by (makes_values (constructor_named ds x.name)) h
  where
    by : (b : Bool) → (if b then Err (mismatch s) else binds_mutable m s t [] x) ≡ Ok a → BindsIts t a
    by true p = absurd (cc)
    by false p = mutable_alone m s t x a p

plain_alone : (t : Ty) (r : Result Pat SourceError) (a : Outcome) → ((p : Pat) → r ≡ Ok p → BindsAlone t p []) → (r >>= plain []) ≡ Ok a → BindsIts t a
plain_alone t r a f h =
    let b = accepted.bound r (plain []) a h in
    subst (BindsIts t) (accepted.same_ok (b.0, []) a b.2) (f b.0 b.1)

integer_alone : (s : Span) (t u : Ty) (z : ℤ) (k : Option IntKind) (p : Pat) → integer_at s t u z k ≡ Ok p → BindsAlone t p []
integer_alone s t (int j) z k p h =
    let b = accepted.held (may_be j k && in_range j z) (accepted.yes (literal t (Some j) z)) (mismatch s) p h in
    subst (λ q. BindsAlone t q []) (accepted.same_ok (literal t (Some j) z) p b.1) refl
integer_alone s t math_int z None p h = subst (λ q. BindsAlone t q []) (accepted.same_ok (literal t None z) p h) refl
integer_alone s t u z k p h = absurd (cc)

truth_alone : (s : Span) (t u : Ty) (b : Bool) (p : Pat) → truth_at s t u b ≡ Ok p → BindsAlone t p []
truth_alone s t bool b p h = subst (λ q. BindsAlone t q []) (accepted.same_ok (truth t b) p h) refl
truth_alone s t u b p h = absurd (cc)

shape_alone : (t : Ty) (k : Maker) (b : List Pat × List BoundName) (a : Outcome) → shaped t k.0 b ≡ Ok a → BindsIts t a
shape_alone t k b a h = subst (BindsIts t) (accepted.same_ok (shape t k.0 (pats_of b.0), b.1) a h) tt

constructor_alone : (s : Span) (t : Ty) (k : Maker) (a : Outcome) → alone s t [] k ≡ Ok a → BindsIts t a
constructor_alone s t (c, no_tys) a h = subst (BindsIts t) (accepted.same_ok (shape t c no_pats, []) a h) tt
constructor_alone s t (c, and_ty u us) a h = absurd (cc)

path_alone : (ds : List AdtDecl) (m : BindingKind) (s : Span) (t : Ty) (p : PathNode) (o : Option Segment) (a : Outcome) → path_at ds m s t [] p o ≡ Ok a → BindsIts t a
path_alone ds m s t p (Some x) a h = name_alone m false t x a h
path_alone ds m s t p None a h =
    let c = accepted.bound (constructor_of ds s p) (λ c. makes s Alone (seen m t).1 c >>= alone s t []) a h in
    let k = accepted.bound (makes s Alone (seen m t).1 c.0) (alone s t []) a c.2 in
    constructor_alone s t k.0 a k.2

pub names_alone : (ds : List AdtDecl) (m : BindingKind) (p : P.Pat) (t : Ty) (a : Outcome) → typed ds m [] p t ≡ Ok a → BindsIts t a
names_alone ds m (P.any s) t a h = subst (BindsIts t) (accepted.same_ok (wild t, []) a h) refl
names_alone ds m (P.mutable s x) t a h = unmade_alone ds m s t x a h
names_alone ds m (P.integer s z k) t a h = plain_alone t (integer_at s t (seen m t).1 z k) a (integer_alone s t (seen m t).1 z k) h
names_alone ds m (P.truth s b) t a h = plain_alone t (truth_at s t (seen m t).1 b) a (truth_alone s t (seen m t).1 b) h
names_alone ds m (P.path s p) t a h = path_alone ds m s t p.node (name_bound ds p.node) a h
names_alone ds m (P.tuple s ps) t a h =
    let k = accepted.bound (tuple_maker s (seen m t).1) (λ k. typed_parts ds (seen m t).0 s [] [] ps k.1 >>= shaped t k.0) a h in
    let b = accepted.bound (typed_parts ds (seen m t).0 s [] [] ps k.0.1) (shaped t k.0.0) a k.2 in
    shape_alone t k.0 b.0 a b.2
names_alone ds m (P.parts s p ps) t a h =
    let c = accepted.bound (constructor_of ds s p.node) (λ c. makes s Numbered (seen m t).1 c >>= (λ k. typed_parts ds (seen m t).0 s [] [] ps k.1 >>= shaped t k.0)) a h in
    let k = accepted.bound (makes s Numbered (seen m t).1 c.0) (λ k. typed_parts ds (seen m t).0 s [] [] ps k.1 >>= shaped t k.0) a c.2 in
    let b = accepted.bound (typed_parts ds (seen m t).0 s [] [] ps k.0.1) (shaped t k.0.0) a k.2 in
    shape_alone t k.0 b.0 a b.2
names_alone ds m (P.fields s p ps rest) t a h =
    let c = accepted.bound (constructor_of ds s p.node) (λ c. makes s Named (seen m t).1 c >>= (λ k. typed_fields ds (seen m t).0 c.fields k.1 (no_fields c.fields k.1) [] ps >>= (λ f. complete s rest f >>= shaped t k.0))) a h in
    let k = accepted.bound (makes s Named (seen m t).1 c.0) (λ k. typed_fields ds (seen m t).0 c.0.fields k.1 (no_fields c.0.fields k.1) [] ps >>= (λ f. complete s rest f >>= shaped t k.0)) a c.2 in
    let f = accepted.bound (typed_fields ds (seen m t).0 c.0.fields k.0.1 (no_fields c.0.fields k.0.1) [] ps) (λ f. complete s rest f >>= shaped t k.0.0) a k.2 in
    let b = accepted.bound (complete s rest f.0) (shaped t k.0.0) a f.2 in
    shape_alone t k.0 b.0 a b.2
