-- Only a name alone gives a variable, and only parts of it give parts of one.
use Rattle.std.proofs.Common.{◌≡◌, Bool, true, false, List, [], Option, Some, None, Ok, refl, sym, subst}
use Rattle.std.specs.Prelude.{ℕ, ℤ, slice_get, if◌then◌else◌}
use Rattle.text_core.specs.declared.span.Span.{Span}
use Rattle.source_kinds.specs.declared.kinds.BinaryOp.{BinaryOp}
use Rattle.source_kinds.specs.declared.kinds.IntKind.{IntKind}
use Rattle.source_kinds.specs.Range.{fits, widens}
use Rattle.logic_term.specs.declared.declaration.AdtDecl.{AdtDecl}
use Rattle.logic_term.specs.declared.declaration.VariantKind.TheVariants.{Named, Unit as Alone}
use Rattle.logic_term.specs.declared.kinds.Ctor.TheVariants.{Tuple, Variant}
use Rattle.logic_term.specs.Ty.{Ty, int, bool, tuple, adt}
use Rattle.source_trees.specs.declared.operator.UnaryOp.TheVariants.{Neg, Not}
use Rattle.source_trees.specs.declared.path.PathNode.{PathNode}
use Rattle.source_trees.specs.declared.path.Segment.{Segment}
use Rattle.source_trees.specs.Expr as E
use Rattle.source_trees.specs.Expr.{Expr}
use Rattle.source_trees.specs.ExprView.{span_of}
use Rattle.source_trees.specs.TypeTreeView.{span_of as type_span}
use Rattle.type_check.specs.declared.assertion.Assertion.{Assertion}
use Rattle.type_check.specs.declared.operands.Operands.{Operands}
use Rattle.type_check.specs.declared.scope.Found.{Found}
use Rattle.type_check.specs.declared.scope.Variable.{Variable}
use Rattle.type_check.specs.Answers.{mismatch, unbuilt, unknown_name, gather}
use Rattle.type_check.specs.Scope.{found}
use Rattle.type_check.specs.Breaks.{breaks}
use Rattle.type_check.specs.Setting.{Setting, looping, outside}
use Rattle.type_check.specs.TypedExpr.{TypedExpr, TypedStmts, TypedExprs}
use Rattle.type_check.specs.TypedExpr as tree
use Rattle.type_check.specs.TypedExprView.{ty_of, stmts_of}
use Rattle.type_check.specs.Types.{same_ty, is_signed_ty, is_built}
use Rattle.type_check.specs.Typing.{fit, literal_kind, literal_of, literal, negated, is_bare, order_of, operands, operation, operated, cast_parts, cast_from, widened, is_mutable, may_write, assigned, is_updated, updated}
use Rattle.type_check.specs.Typing.{local_of, made_alone, named_by, named, Called, of_function, of_maker, callee_of, params_of, call_of, called, asked, block_ty, without_last, closed, given, choice_ty, cause_of, nothing, returned, endless, invariant_of, parts_of, tupled, is_boxed, part_number, part_if, field_of, part_by, parted, selected, no_field_left, literal_made, typed, typed_stmts, typed_args, typed_fields, typed_arm, typed_arms, repeated_by}
use Rattle.type_check.specs.Arms.{or_else_arm}
use Rattle.type_check.specs.Causes.{root_name}
use Rattle.type_check.specs.Makers.{maker_of}
use Rattle.type_check.specs.WellTyped.{unit, is_arithmetic, operation_ty, tys_of_exprs}
use Rattle.type_check.specs.Written.{as_name, name_alone, written_type}
use Rattle.type_check.proofs.Bound.{bound, held, yes, same_ok}
use Rattle.type_check.proofs.Fits.{fit_same, no_part, written_fits}

-- a variable is that of the name
abbrev pub IsNamed : List Variable → Option Segment → TypedExpr → Type 0
IsNamed Γ x (tree.variable t s k) = (y : Segment) × (x ≡ Some y) × (v : Found) × (found y.name Γ ≡ Some v) × (v.place ≡ k)
IsNamed Γ x (tree.part t s e n) = IsNamed Γ x e
IsNamed Γ x e = Unit {0}

-- what may not be written is the variable of the name, which is not mutable
pub constant_named : (Γ : List Variable) (x : Option Segment) (e : TypedExpr) → IsNamed Γ x e → may_write Γ e ≡ false → (y : Segment) × (x ≡ Some y) × (v : Found) × (found y.name Γ ≡ Some v) × (is_mutable (slice_get Γ v.place) ≡ false)
constant_named Γ x (tree.variable t s k) n f = (n.0, n.1, n.2, n.3, subst (λ j. is_mutable (slice_get Γ j) ≡ false) (sym n.4) f)
constant_named Γ x (tree.part t s e m) n f = constant_named Γ x e n f
constant_named Γ x e n f = absurd (cc)

-- ---- forms

fit_named : (Γ : List Variable) (x : Option Segment) (t : Option Ty) (s : Span) (e r : TypedExpr) → IsNamed Γ x e → fit t s e ≡ Ok r → IsNamed Γ x r
fit_named Γ x t s e r n p = subst (IsNamed Γ x) (fit_same t s e r p).0 n

literal_at : (Γ : List Variable) (t : Option Ty) (s : Span) (z : ℤ) (k : Option IntKind) (r : TypedExpr) → literal_of t s z k ≡ Ok r → IsNamed Γ None r
literal_at Γ t s z None r p = absurd (cc)
literal_at Γ t s z (Some k) r p = fit_named Γ None t s (tree.integer (int k) s z k) r tt (held (fits k z) (fit t s (tree.integer (int k) s z k)) (mismatch s) r p).1

local_named : (Γ : List Variable) (x : Option Segment) (v : Found) → local_of Γ x ≡ Some v → (y : Segment) × (x ≡ Some y) × (w : Found) × (found y.name Γ ≡ Some w) × (w.place ≡ v.place)
local_named Γ None v p = absurd (cc)
local_named Γ (Some y) v p = (y, refl, v, p, refl)

path_at : (ds : List AdtDecl) (Γ : List Variable) (t : Option Ty) (s : Span) (w : PathNode) (o : Option Found) (r : TypedExpr) → local_of Γ (name_alone w) ≡ o → named_by ds t s w o ≡ Ok r → IsNamed Γ (name_alone w) r
unfolding literal_made
path_at ds Γ t s w (Some v) r q p = fit_named Γ (name_alone w) t s (tree.variable v.ty s v.place) r (local_named Γ (name_alone w) v q) p
path_at ds Γ t s w None r q p =
    let m = bound (maker_of ds Alone t s w) (made_alone t s) r p in
    let es = bound (no_field_left s m.0.fields) (literal_made t s m.0) r m.2 in
    fit_named Γ (name_alone w) t s (tree.make (adt m.0.number [] m.0.arguments) s (Variant m.0.number m.0.variant) es.0) r tt es.2

path_named : (ds : List AdtDecl) (Γ : List Variable) (t : Option Ty) (s : Span) (w : PathNode) (r : TypedExpr) → named ds Γ t s w ≡ Ok r → IsNamed Γ (name_alone w) r
unfolding named
path_named ds Γ t s w r p = path_at ds Γ t s w (local_of Γ (name_alone w)) r refl p

call_named : (Γ : List Variable) (t : Option Ty) (s : Span) (c : Called) (es : TypedExprs) (r : TypedExpr) → call_of t s c es ≡ Ok r → IsNamed Γ None r
unfolding literal_made
call_named Γ t s (of_function f) es r p = fit_named Γ None t s (tree.call f.signature.answer s f.place es) r tt p
call_named Γ t s (of_maker m) es r p = fit_named Γ None t s (tree.make (adt m.number [] m.arguments) s (Variant m.number m.variant) es) r tt p

operation_named : (Γ : List Variable) (u t : Option Ty) (s o r : Span) (op : BinaryOp) (p : Operands) (e : TypedExpr) → operation u t s o r op p ≡ Ok e → IsNamed Γ None e
operation_named Γ None t s o r op p e h = absurd (cc)
operation_named Γ (Some u) t s o r op p e h = fit_named Γ None t s (tree.binary u o op p.left p.right) e tt h

cast_at : (Γ : List Variable) (u v : Ty) (t : Option Ty) (s o r : Span) (a e : TypedExpr) → cast_from u v t s o r a ≡ Ok e → IsNamed Γ None e
cast_at Γ (int j) (int k) t s o r a e p = fit_named Γ None t s (tree.cast (int k) s a) e tt (held (widens j k) (fit t s (tree.cast (int k) s a)) (mismatch s) e p).1
cast_at Γ (int j) _ t s o r a e p = absurd (cc)
cast_at Γ _ v t s o r a e p = absurd (cc)

endless_at : (Γ : List Variable) (k : Bool) (t : Option Ty) (s : Span) (is : List Assertion) (b r : TypedExpr) → (if k then fit t s (tree.until_break unit s is b) else yes (tree.endless (asked t) s is b)) ≡ Ok r → IsNamed Γ None r
endless_at Γ true t s is b r p = fit_named Γ None t s (tree.until_break unit s is b) r tt p
endless_at Γ false t s is b r p = subst (IsNamed Γ None) (same_ok (tree.endless (asked t) s is b) r p) tt

endless_named : (Γ : List Variable) (t : Option Ty) (s : Span) (is : List Assertion) (b r : TypedExpr) → endless t s is b ≡ Ok r → IsNamed Γ None r
unfolding endless
endless_named Γ t s is b r p = endless_at Γ (breaks b) t s is b r p

part_named : (ds : List AdtDecl) (Γ : List Variable) (x : Option Segment) (t : Option Ty) (s o : Span) (a : TypedExpr) (p : Option (ℕ × Ty)) (r : TypedExpr) → IsNamed Γ x a → part_by ds t s o a p ≡ Ok r → IsNamed Γ x r
part_named ds Γ x t s o a None r h q = absurd (no_part (is_boxed (ty_of a)) (unbuilt s) (unknown_name o) r q)
part_named ds Γ x t s o a (Some p) r h q = fit_named Γ x t s (tree.part p.1 s a p.0) r h (held (is_built ds p.1) (fit t s (tree.part p.1 s a p.0)) (unbuilt s) r q).1

-- what an expression gives is a variable, or a part of one, only where a name is at its root
pub typed_named : (σ : Setting) (Γ : List Variable) (e : Expr) (t : Option Ty) (r : TypedExpr) → typed σ Γ e t ≡ Ok r → IsNamed Γ (root_name e) r
unfolding as_name literal negated operated widened assigned updated called closed tupled parted selected literal_made
typed_named σ Γ (E.integer s z k) t r p = literal_at Γ t s z (literal_kind k t) r p
typed_named σ Γ (E.truth s b) t r p = fit_named Γ None t s (tree.truth bool s b) r tt p
typed_named σ Γ (E.path s w) t r p = path_named σ.types Γ t s w.node r p
typed_named σ Γ (E.unary s Neg o e) t r p =
    let a = bound (typed σ Γ e t) _ r p in
    fit_named Γ None t s (tree.negative (ty_of a.0) o a.0) r tt (held (is_signed_ty (ty_of a.0)) _ (mismatch (span_of e)) r a.2).1
typed_named σ Γ (E.unary s Not o e) t r p =
    let a = bound (typed σ Γ e (Some bool)) _ r p in
    fit_named Γ None t s (tree.denied bool s a.0) r tt a.2
typed_named σ Γ (E.cast s e w) t r p =
    let q = bound (cast_parts (is_bare e) (typed σ Γ e) (written_type σ.types w)) _ r p in
    cast_at Γ (ty_of q.0.0) q.0.1 t s (span_of e) (type_span w) q.0.0 r q.2
typed_named σ Γ (E.binary s op o a b) t r p =
    let q = bound (operands (order_of (is_arithmetic op) t (is_bare a) (is_bare b)) (typed σ Γ a) (typed σ Γ b)) _ r p in
    operation_named Γ (operation_ty op (ty_of q.0.left)) t s o (span_of a) op q.0 r q.2
typed_named σ Γ (E.lazy s op a b) t r p =
    let x = bound (typed σ Γ a (Some bool)) _ r p in
    let y = bound (typed σ Γ b (Some bool)) _ r x.2 in
    fit_named Γ None t s (tree.lazy bool s op x.0 y.0) r tt y.2
typed_named σ Γ (E.assign s l e) t r p =
    let a = bound (typed σ Γ l None) _ r p in
    let b = bound (typed σ Γ e (Some (ty_of a.0))) _ r a.2 in
    fit_named Γ None t s (tree.assign unit s a.0 b.0) r tt (written_fits Γ t s (span_of l) a.0 (tree.assign unit s a.0 b.0) r b.2)
typed_named σ Γ (E.update s op o l e) t r p =
    let a = bound (typed σ Γ l None) _ r p in
    let b = bound (typed σ Γ e (Some (ty_of a.0))) _ r a.2 in
    fit_named Γ None t s (tree.update unit o op a.0 b.0) r tt
    (written_fits Γ t s (span_of l) a.0 (tree.update unit o op a.0 b.0) r (held (is_updated op (ty_of a.0)) _ (mismatch (span_of l)) r b.2).1)
typed_named σ Γ (E.call s f es) t r p =
    let g = bound (callee_of σ Γ t s f) _ r p in
    let as' = bound (typed_args σ Γ es (params_of g.0)) _ r g.2 in
    call_named Γ t s g.0 as'.0 r (held _ _ (mismatch s) r as'.2).1
typed_named σ Γ (E.tuple s es) t r p =
    let as' = bound (typed_args σ Γ es (parts_of t)) _ r p in
    fit_named Γ None t s (tree.make (tuple (tys_of_exprs as'.0)) s Tuple as'.0) r tt as'.2
typed_named σ Γ (E.part s e k) t r p =
    let a = bound (typed σ Γ e None) _ r p in
    part_named σ.types Γ (root_name e) t s k.span a.0 (part_if σ.types (ty_of a.0) (part_number k)) r (typed_named σ Γ e None a.0 a.1) a.2
typed_named σ Γ (E.field s e x []) t r p =
    let a = bound (typed σ Γ e None) _ r p in
    part_named σ.types Γ (root_name e) t s x.span a.0 (field_of σ.types x.name (ty_of a.0)) r (typed_named σ Γ e None a.0 a.1) a.2
typed_named σ Γ (E.literal s w fs) t r p =
    let m = bound (maker_of σ.types Named t s w.node) _ r p in
    let as' = bound (typed_fields σ Γ s m.0 m.0.fields fs) _ r m.2 in
    fit_named Γ None t s (tree.make (adt m.0.number [] m.0.arguments) s (Variant m.0.number m.0.variant) as'.0) r tt as'.2
typed_named σ Γ (E.block s ss) t r p =
    let o = bound (typed_stmts σ Γ ss) _ r p in
    fit_named Γ None t s (tree.block (block_ty t (without_last o.0.stmts)) s (without_last o.0.stmts)) r tt o.2
typed_named σ Γ (E.block_with s ss e) t r p =
    let o = bound (typed_stmts σ Γ ss) _ r p in
    let a = bound (typed σ o.0.scope e t) _ r o.2 in
    fit_named Γ None t s (tree.block (block_ty t (stmts_of o.0.stmts (tree.last a.0))) s (stmts_of o.0.stmts (tree.last a.0))) r tt a.2
typed_named σ Γ (E.branch s None c a) t r p =
    let x = bound (typed σ Γ c (Some bool)) _ r p in
    let y = bound (typed σ Γ a (Some unit)) _ r x.2 in
    fit_named Γ None t s (tree.branch unit s x.0 y.0) r tt y.2
typed_named σ Γ (E.choice s None c a b) t r p =
    let x = bound (typed σ Γ c (Some bool)) _ r p in
    let y = bound (typed σ Γ a t) _ r x.2 in
    let z = bound (typed σ Γ b (given t y.0)) _ r y.2 in
    fit_named Γ None t s (tree.choice (choice_ty y.0 z.0) s x.0 y.0 z.0) r tt z.2
typed_named σ Γ (E.branch s (Some w) c e) t r p =
    let a = bound (typed σ Γ c None) _ r p in
    let x = bound (typed_arm σ Γ (ty_of a.0) (Some unit) w e) _ r a.2 in
    fit_named Γ None t s (tree.matched unit s a.0 (or_else_arm (ty_of a.0) x.0 (nothing s))) r tt x.2
typed_named σ Γ (E.choice s (Some w) c d e) t r p =
    let a = bound (typed σ Γ c None) _ r p in
    let x = bound (typed_arm σ Γ (ty_of a.0) t w d) _ r a.2 in
    let z = bound (typed σ Γ e (given t x.0.body)) _ r x.2 in
    fit_named Γ None t s (tree.matched (asked (given (given t x.0.body) z.0)) s a.0 (or_else_arm (ty_of a.0) x.0 z.0)) r tt z.2
typed_named σ Γ (E.matching s e as') t r p =
    let a = bound (typed σ Γ e None) _ r p in
    let q = bound (typed_arms σ Γ (ty_of a.0) t tree.no_arms as') _ r a.2 in
    fit_named Γ None t s (tree.matched (asked q.0.1) s a.0 q.0.0) r tt q.2
typed_named σ Γ (E.repeat s None c b) t r p =
    let x = bound (typed (outside σ) Γ c (Some bool)) _ r p in
    let y = bound (typed (looping σ) Γ b (Some unit)) _ r x.2 in
    fit_named Γ None t s (tree.repeat unit s [] x.0 y.0) r tt y.2
typed_named σ Γ (E.attributed s is (E.repeat v None c b)) t r p =
    let is' = bound (gather (invariant_of σ.types Γ) is) _ r p in
    let x = bound (typed (outside σ) Γ c (Some bool)) _ r is'.2 in
    let y = bound (typed (looping σ) Γ b (Some unit)) _ r x.2 in
    fit_named Γ None t s (tree.repeat unit s is'.0 x.0 y.0) r tt y.2
typed_named σ Γ (E.repeat s (Some w) c b) t r p =
    let a = bound (typed (outside σ) Γ c None) _ r p in
    let x = bound (typed_arm (looping σ) Γ (ty_of a.0) (Some unit) w b) _ r a.2 in
    fit_named Γ None t s (repeated_by s [] a.0 x.0) r tt x.2
typed_named σ Γ (E.attributed s is (E.repeat v (Some w) c b)) t r p =
    let is' = bound (gather (invariant_of σ.types Γ) is) _ r p in
    let a = bound (typed (outside σ) Γ c None) _ r is'.2 in
    let x = bound (typed_arm (looping σ) Γ (ty_of a.0) (Some unit) w b) _ r a.2 in
    fit_named Γ None t s (repeated_by s is'.0 a.0 x.0) r tt x.2
typed_named σ Γ (E.panic s m text) t r p = subst (IsNamed Γ None) (same_ok (tree.panics (asked t) s (cause_of m)) r p) tt
typed_named σ Γ (E.bare_return s) t r p = subst (IsNamed Γ None) (same_ok (returned t s (nothing s)) r (held (same_ty unit σ.answer) _ (mismatch s) r p).1) tt
typed_named σ Γ (E.return_with s e) t r p =
    let a = bound (typed σ Γ e (Some σ.answer)) _ r p in
    subst (IsNamed Γ None) (same_ok (returned t s a.0) r a.2) tt
typed_named σ Γ (E.endless s b) t r p =
    let x = bound (typed (looping σ) Γ b (Some unit)) _ r p in
    endless_named Γ t s [] x.0 r x.2
typed_named σ Γ (E.attributed s is (E.endless v b)) t r p =
    let is' = bound (gather (invariant_of σ.types Γ) is) _ r p in
    let x = bound (typed (looping σ) Γ b (Some unit)) _ r is'.2 in
    endless_named Γ t s is'.0 x.0 r x.2
typed_named σ Γ (E.break_off s) t r p = subst (IsNamed Γ None) (same_ok (tree.break_off (asked t) s) r (held σ.in_loop _ (mismatch s) r p).1) tt
typed_named σ Γ (E.go_on s) t r p = subst (IsNamed Γ None) (same_ok (tree.go_on (asked t) s) r (held σ.in_loop _ (mismatch s) r p).1) tt
typed_named σ Γ e t r p = absurd (cc)
