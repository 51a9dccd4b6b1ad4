-- Refusals of program code have causes.
use Rattle.std.proofs.Common.{◌≡◌, ◌⊎◌, inl, inr, ℕ, ◌==◌, Bool, true, false, List, [], ◌∷◌, length, Option, Some, None, Result, Ok, Err, refl, ap, sym, ◌∙◌}
use Rattle.std.specs.Prelude.{ℤ, if◌then◌else◌}
use Rattle.text_core.specs.declared.refusal.SourceError.{SourceError}
use Rattle.text_core.specs.declared.span.Span.{Span}
use Rattle.source_kinds.specs.declared.kinds.BinaryOp.{BinaryOp}
use Rattle.source_kinds.specs.declared.kinds.IntKind.{IntKind}
use Rattle.source_kinds.specs.Range.{fits, widens}
use Rattle.logic_term.specs.declared.declaration.AdtDecl.{AdtDecl}
use Rattle.logic_term.specs.declared.declaration.FieldDecl.{FieldDecl}
use Rattle.logic_term.specs.declared.declaration.VariantKind.TheVariants.{Named, Unit as Alone}
use Rattle.logic_term.specs.declared.kinds.Ctor.TheVariants.{Tuple, Variant}
use Rattle.logic_term.specs.Ty.{Ty, int, bool, tuple, adt}
use Rattle.source_trees.specs.declared.attribute.Attribute.{Attribute}
use Rattle.source_trees.specs.declared.attribute.AttributeNode.{AttributeNode}
use Rattle.source_trees.specs.declared.attribute.AttributeNode.TheVariants as A
use Rattle.source_trees.specs.declared.attribute.ClauseKind.TheVariants.{Invariant}
use Rattle.source_trees.specs.declared.operator.UnaryOp.TheVariants.{Neg, Not}
use Rattle.source_trees.specs.declared.path.Number.{Number}
use Rattle.source_trees.specs.declared.path.PathNode.{PathNode}
use Rattle.source_trees.specs.declared.path.Segment.{Segment}
use Rattle.source_trees.specs.declared.statement.StmtKind.{StmtKind}
use Rattle.source_trees.specs.declared.statement.StmtKind.TheVariants as kind
use Rattle.source_trees.specs.Expr as E
use Rattle.source_trees.specs.Expr.{Expr}
use Rattle.source_trees.specs.ExprView.{span_of}
use Rattle.source_trees.specs.Pat as P
use Rattle.source_trees.specs.TypeTree as W
use Rattle.source_trees.specs.TypeTreeView.{span_of as type_span}
use Rattle.type_check.specs.declared.assertion.Assertion.{Assertion}
use Rattle.type_check.specs.declared.operands.Operands.{Operands}
use Rattle.type_check.specs.declared.operands.Order.{Order}
use Rattle.type_check.specs.declared.operands.Order.TheVariants as order
use Rattle.type_check.specs.declared.scope.Declared.{Declared}
use Rattle.type_check.specs.declared.scope.Found.{Found}
use Rattle.type_check.specs.declared.scope.Variable.{Variable}
use Rattle.type_check.specs.declared.statements.Step.{Step}
use Rattle.type_check.specs.Answers.{◌>>=◌, unknown_name, mismatch, unbuilt, not_mutable, with_some, gather}
use Rattle.type_check.specs.Arms.{TypedArm, Binding, arm_of, arm_from, pattern_at, in_arm, and_arm, or_else_arm}
use Rattle.type_check.specs.Causes.{IsNoPattern, IsMismatch, IsUnbuilt, IsNoValue, IsNotWritten, IsNoPart, IsNoField, IsNoType, root_name, Causes, CausesInStmts, CausesInArgs, CausesInFields, CausesInArms}
use Rattle.type_check.specs.Makers.{Maker, maker_of}
use Rattle.type_check.specs.Breaks.{breaks}
use Rattle.type_check.specs.Setting.{Setting, looping, outside}
use Rattle.type_check.specs.TypedExpr.{TypedExpr, TypedStmts, TypedExprs, TypedArms}
use Rattle.type_check.specs.TypedExpr as tree
use Rattle.type_check.specs.TypedExprView.{ty_of, stmts_of}
use Rattle.type_check.specs.Types.{same_ty, is_signed_ty, is_built}
use Rattle.type_check.specs.Typing.{Typed, fit, literal_kind, literal_of, literal, negated, is_bare, order_of, operands_of, operands, operation, operated, cast_parts, cast_from, widened, may_write, if_mutable, writing, assigned}
use Rattle.type_check.specs.Typing.{is_updated, updated, local_of, made_alone, named_by, named, Called, of_function, of_maker, callee_of, params_of, call_of, how_many, first_of, rest_of, called, asked, block_ty, declared, behind, typed_stmt, without_last, closed, given, choice_ty, cause_of, nothing, returned, endless, in_a_loop, invariant_by, invariant_of, parts_of, tupled, is_boxed, part_number, part_if, field_of, part_by, parted, selected, next_field, fields_behind, no_field_left, literal_made, typed, typed_stmts, typed_args, typed_fields, typed_arm, typed_arms, repeated_by}
use Rattle.type_check.specs.WellTyped.{unit, is_arithmetic, operation_ty, tys_of_exprs}
use Rattle.type_check.specs.Written.{name_alone, written_type, written_or_none, name_or, declared_by, step_of}
use Rattle.type_check.proofs.Bound.{yes}
use Rattle.type_check.proofs.Targets.{IsNamed, constant_named, typed_named}

-- where a chain stops: at its first part, or after it
stop : {A B : Type 0} (m : Result A SourceError) (k : A → Result B SourceError) (e : SourceError) → (m >>= k) ≡ Err e → (m ≡ Err e) ⊎ ((a : A) × (m ≡ Ok a) × (k a ≡ Err e))
stop (Ok a) k e p = inr (a, refl, p)
stop (Err f) k e p = let q : f ≡ e = cc in inl (ap (λ g. Err g) q)

-- a test whose other side is a mismatch
unheld : {A : Type 0} (b : Bool) (m : Result A SourceError) (s : Span) (e : SourceError) → (m ≡ Err e → IsMismatch e) → (if b then m else Err (mismatch s)) ≡ Err e → IsMismatch e
unheld true m s e h p = h p
unheld false m s e h p = let q : mismatch s ≡ e = cc in (s, sym q)

fit_stops : (t : Option Ty) (s : Span) (a : TypedExpr) (e : SourceError) → fit t s a ≡ Err e → IsMismatch e
unfolding fit
fit_stops None s a e p = absurd (cc)
fit_stops (Some t) s a e p = unheld (same_ty (ty_of a) t) (Ok a) s e (λ q. absurd (cc)) p

literal_at : (t : Option Ty) (s : Span) (z : ℤ) (k : Option IntKind) (e : SourceError) → literal_of t s z k ≡ Err e → IsMismatch e
literal_at t s z None e p = let q : mismatch s ≡ e = cc in (s, sym q)
literal_at t s z (Some k) e p = unheld (fits k z) (fit t s (tree.integer (int k) s z k)) s e (fit_stops t s (tree.integer (int k) s z k) e) p

literal_stops : (t : Option Ty) (s : Span) (z : ℤ) (k : Option IntKind) (e : SourceError) → literal t s z k ≡ Err e → IsMismatch e
unfolding literal
literal_stops t s z k e p = literal_at t s z (literal_kind k t) e p

negated_stops : (t : Option Ty) (s o r : Span) (a : TypedExpr) (e : SourceError) → negated t s o r a ≡ Err e → IsMismatch e
unfolding negated
negated_stops t s o r a e p = unheld (is_signed_ty (ty_of a)) (fit t s (tree.negative (ty_of a) o a)) r e (fit_stops t s (tree.negative (ty_of a) o a) e) p

operation_stops : (u t : Option Ty) (s o r : Span) (op : BinaryOp) (p : Operands) (e : SourceError) → operation u t s o r op p ≡ Err e → IsMismatch e
operation_stops None t s o r op p e h = let q : mismatch r ≡ e = cc in (r, sym q)
operation_stops (Some u) t s o r op p e h = fit_stops t s (tree.binary u o op p.left p.right) e h

operated_stops : (t : Option Ty) (s o r : Span) (op : BinaryOp) (p : Operands) (e : SourceError) → operated t s o r op p ≡ Err e → IsMismatch e
unfolding operated
operated_stops t s o r op p e h = operation_stops (operation_ty op (ty_of p.left)) t s o r op p e h

-- one of two parts stops, at some expected type
abbrev pub OneStops : (Option Ty → Typed) → (Option Ty → Typed) → SourceError → Type 0
OneStops f g e = ((t : Option Ty) × (f t ≡ Err e)) ⊎ ((t : Option Ty) × (g t ≡ Err e))

no_operands : (a b : TypedExpr) (f g : Option Ty → Typed) (e : SourceError) → yes (operands_of a b) ≡ Err e → OneStops f g e
no_operands a b f g e p = absurd (cc)

operands_stop : (o : Order) (f g : Option Ty → Typed) (e : SourceError) → operands o f g ≡ Err e → OneStops f g e
operands_stop (order.Against t) f g e p =
    elim (stop (f (Some t)) _ e p) as (λ _. OneStops f g e) [
      | inl q ↦ inl (Some t, q)
      | inr a ↦ elim (stop (g (Some t)) _ e a.2) as (λ _. OneStops f g e) [ inl q ↦ inr (Some t, q) | inr b ↦ no_operands a.0 b.0 f g e b.2 ]
    ]
operands_stop order.SecondGives f g e p =
    elim (stop (g None) _ e p) as (λ _. OneStops f g e) [
      | inl q ↦ inr (None, q)
      | inr b ↦ elim (stop (f (Some (ty_of b.0))) _ e b.2) as (λ _. OneStops f g e) [ inl q ↦ inl (Some (ty_of b.0), q) | inr a ↦ no_operands a.0 b.0 f g e a.2 ]
    ]
operands_stop order.FirstGives f g e p =
    elim (stop (f None) _ e p) as (λ _. OneStops f g e) [
      | inl q ↦ inl (None, q)
      | inr a ↦ elim (stop (g (Some (ty_of a.0))) _ e a.2) as (λ _. OneStops f g e) [ inl q ↦ inr (Some (ty_of a.0), q) | inr b ↦ no_operands a.0 b.0 f g e b.2 ]
    ]

-- ---- casts

cast_stops : (u v : Ty) (t : Option Ty) (s o r : Span) (a : TypedExpr) (e : SourceError) → cast_from u v t s o r a ≡ Err e → IsMismatch e
cast_stops (int j) (int k) t s o r a e p = unheld (widens j k) (fit t s (tree.cast (int k) s a)) s e (fit_stops t s (tree.cast (int k) s a) e) p
cast_stops (int j) _ t s o r a e p = let q : mismatch r ≡ e = cc in (r, sym q)
cast_stops _ v t s o r a e p = let q : mismatch o ≡ e = cc in (o, sym q)

widened_stops : (t : Option Ty) (s o r : Span) (p : TypedExpr × Ty) (e : SourceError) → widened t s o r p ≡ Err e → IsMismatch e
unfolding widened
widened_stops t s o r p e h = cast_stops (ty_of p.0) p.1 t s o r p.0 e h

-- the operand stops, at some expected type, or the written type does
abbrev pub CastStops : (Option Ty → Typed) → Result Ty SourceError → SourceError → Type 0
CastStops f m e = ((t : Option Ty) × (f t ≡ Err e)) ⊎ (m ≡ Err e)

no_parts : (p : TypedExpr × Ty) (f : Option Ty → Typed) (m : Result Ty SourceError) (e : SourceError) → yes p ≡ Err e → CastStops f m e
no_parts p f m e q = absurd (cc)

cast_parts_stop : (bare : Bool) (f : Option Ty → Typed) (m : Result Ty SourceError) (e : SourceError) → cast_parts bare f m ≡ Err e → CastStops f m e
cast_parts_stop true f m e p =
    elim (stop m _ e p) as (λ _. CastStops f m e) [
      | inl q ↦ inr q
      | inr u ↦ elim (stop (f (Some u.0)) _ e u.2) as (λ _. CastStops f m e) [ inl q ↦ inl (Some u.0, q) | inr a ↦ no_parts (a.0, u.0) f m e a.2 ]
    ]
cast_parts_stop false f m e p =
    elim (stop (f None) _ e p) as (λ _. CastStops f m e) [
      | inl q ↦ inl (None, q)
      | inr a ↦ elim (stop m _ e a.2) as (λ _. CastStops f m e) [ inl q ↦ inr q | inr u ↦ no_parts (a.0, u.0) f m e u.2 ]
    ]

-- ---- assignments

-- the written variable is not mutable
abbrev pub IsFixed : List Variable → TypedExpr → Span → SourceError → Type 0
IsFixed Γ a l e = (may_write Γ a ≡ false) × (e ≡ not_mutable l)

if_mutable_stops : (b : Bool) (l : Span) (r : TypedExpr) (e : SourceError) → if_mutable b l r ≡ Err e → (b ≡ false) × (e ≡ not_mutable l)
if_mutable_stops true l r e p = absurd (cc)
if_mutable_stops false l r e p = let q : not_mutable l ≡ e = cc in (refl, sym q)

writing_stops : (Γ : List Variable) (t : Option Ty) (s l : Span) (a r : TypedExpr) (e : SourceError) → writing Γ t s l a r ≡ Err e → IsMismatch e ⊎ IsFixed Γ a l e
writing_stops Γ t s l a r e p =
    elim (stop (fit t s r) (if_mutable (may_write Γ a) l) e p) as (λ _. IsMismatch e ⊎ IsFixed Γ a l e) [
      | inl q ↦ inl (fit_stops t s r e q)
      | inr f ↦ inr (if_mutable_stops (may_write Γ a) l f.0 e f.2)
    ]

assigned_stops : (Γ : List Variable) (t : Option Ty) (s l : Span) (a b : TypedExpr) (e : SourceError) → assigned Γ t s l a b ≡ Err e → IsMismatch e ⊎ IsFixed Γ a l e
unfolding assigned
assigned_stops Γ t s l a b e p = writing_stops Γ t s l a (tree.assign unit s a b) e p

updated_at : (u : Bool) (Γ : List Variable) (t : Option Ty) (s l : Span) (a r : TypedExpr) (e : SourceError) → (if u then writing Γ t s l a r else Err (mismatch l)) ≡ Err e → IsMismatch e ⊎ IsFixed Γ a l e
updated_at true Γ t s l a r e p = writing_stops Γ t s l a r e p
updated_at false Γ t s l a r e p = let q : mismatch l ≡ e = cc in inl (l, sym q)

updated_stops : (Γ : List Variable) (t : Option Ty) (s o l : Span) (op : BinaryOp) (a b : TypedExpr) (e : SourceError) → updated Γ t s o l op a b ≡ Err e → IsMismatch e ⊎ IsFixed Γ a l e
unfolding updated
updated_stops Γ t s o l op a b e p = updated_at (is_updated op (ty_of a)) Γ t s l a (tree.update unit o op a b) e p

not_written : (Γ : List Variable) (l : Expr) (a : TypedExpr) (e : SourceError) → IsNamed Γ (root_name l) a → IsMismatch e ⊎ IsFixed Γ a (span_of l) e → IsMismatch e ⊎ IsNotWritten Γ l e
not_written Γ l a e n (inl m) = inl m
not_written Γ l a e n (inr f) = let c = constant_named Γ (root_name l) a n f.0 in inr (c.0, c.1, (c.2, c.3, c.4, f.1))

-- an assignment stops at its left side, at its right side, or as a whole
assignment_stops : (σ : Setting) (Γ : List Variable) (l r : Expr) (k : TypedExpr → TypedExpr → Typed) (e : SourceError) → ((a b : TypedExpr) → k a b ≡ Err e → IsMismatch e ⊎ IsFixed Γ a (span_of l) e)
    → (typed σ Γ l None ≡ Err e → Causes σ Γ l e) → ((t : Option Ty) → typed σ Γ r t ≡ Err e → Causes σ Γ r e) → (typed σ Γ l None >>= λ a. typed σ Γ r (Some (ty_of a)) >>= k a) ≡ Err e
    → (IsMismatch e ⊎ IsNotWritten Γ l e) ⊎ (Causes σ Γ l e ⊎ Causes σ Γ r e)
assignment_stops σ Γ l r k e hk hl hr p =
    elim (stop (typed σ Γ l None) (λ a. typed σ Γ r (Some (ty_of a)) >>= k a) e p) as (λ _. (IsMismatch e ⊎ IsNotWritten Γ l e) ⊎ (Causes σ Γ l e ⊎ Causes σ Γ r e)) [
      | inl q ↦ inr (inl (hl q))
      | inr a ↦ elim (stop (typed σ Γ r (Some (ty_of a.0))) (k a.0) e a.2) as (λ _. (IsMismatch e ⊎ IsNotWritten Γ l e) ⊎ (Causes σ Γ l e ⊎ Causes σ Γ r e)) [
        | inl q ↦ inr (inr (hr (Some (ty_of a.0)) q))
        | inr b ↦ inl (not_written Γ l a.0 e (typed_named σ Γ l None a.0 a.1) (hk a.0 b.0 b.2))
      ]
    ]

-- ---- calls and blocks

closed_stops : (t : Option Ty) (s : Span) (ss : TypedStmts) (e : SourceError) → closed t s ss ≡ Err e → IsMismatch e
unfolding closed
closed_stops t s ss e p = fit_stops t s (tree.block (block_ty t ss) s ss) e p

-- ---- tuples

tupled_stops : (t : Option Ty) (s : Span) (es : TypedExprs) (e : SourceError) → tupled t s es ≡ Err e → IsMismatch e
unfolding tupled
tupled_stops t s es e p = fit_stops t s (tree.make (tuple (tys_of_exprs es)) s Tuple es) e p

abbrev refused_by : SourceError → Typed
refused_by e = Err e

-- nothing is found
abbrev IsLacking : Span → Option (ℕ × Ty) → SourceError → Type 0
IsLacking o p e = (p ≡ None) × (e ≡ unknown_name o)

nothing_found : (b : Bool) (s o : Span) (e : SourceError) → (if b then refused_by (unbuilt s) else Err (unknown_name o)) ≡ Err e → IsUnbuilt e ⊎ IsLacking o None e
nothing_found true s o e p = let q : unbuilt s ≡ e = cc in inl (s, sym q)
nothing_found false s o e p = let q : unknown_name o ≡ e = cc in inr (refl, sym q)

found_stops : (b : Bool) (s : Span) (m : Typed) (e : SourceError) → (m ≡ Err e → IsMismatch e) → (if b then m else Err (unbuilt s)) ≡ Err e → IsMismatch e ⊎ IsUnbuilt e
found_stops true s m e h p = inl (h p)
found_stops false s m e h p = let q : unbuilt s ≡ e = cc in inr (s, sym q)

part_stops : (ds : List AdtDecl) (t : Option Ty) (s o : Span) (a : TypedExpr) (p : Option (ℕ × Ty)) (e : SourceError) → part_by ds t s o a p ≡ Err e → (IsMismatch e ⊎ IsUnbuilt e) ⊎ IsLacking o p e
part_stops ds t s o a None e q = elim (nothing_found (is_boxed (ty_of a)) s o e q) as (λ _. (IsMismatch e ⊎ IsUnbuilt e) ⊎ IsLacking o None e) [ inl u ↦ inl (inr u) | inr l ↦ inr l ]
part_stops ds t s o a (Some p) e q = inl (found_stops (is_built ds p.1) s (fit t s (tree.part p.1 s a p.0)) e (fit_stops t s (tree.part p.1 s a p.0) e) q)

parted_stops : (σ : Setting) (Γ : List Variable) (a : Expr) (t : Option Ty) (s : Span) (k : Number) (v : TypedExpr) (e : SourceError) → typed σ Γ a None ≡ Ok v → parted σ.types t s k v ≡ Err e → (IsMismatch e ⊎ IsUnbuilt e) ⊎ IsNoPart σ Γ a k e
unfolding parted
parted_stops σ Γ a t s k v e is p =
    elim (part_stops σ.types t s k.span v (part_if σ.types (ty_of v) (part_number k)) e p) as (λ _. (IsMismatch e ⊎ IsUnbuilt e) ⊎ IsNoPart σ Γ a k e) [ inl m ↦ inl m | inr l ↦ inr (v, is, l.0, l.1) ]

selected_stops : (σ : Setting) (Γ : List Variable) (a : Expr) (t : Option Ty) (s : Span) (x : Segment) (v : TypedExpr) (e : SourceError) → typed σ Γ a None ≡ Ok v → selected σ.types t s x v ≡ Err e → (IsMismatch e ⊎ IsUnbuilt e) ⊎ IsNoField σ Γ a x e
unfolding selected
selected_stops σ Γ a t s x v e is p =
    elim (part_stops σ.types t s x.span v (field_of σ.types x.name (ty_of v)) e p) as (λ _. (IsMismatch e ⊎ IsUnbuilt e) ⊎ IsNoField σ Γ a x e) [ inl m ↦ inl m | inr l ↦ inr (v, is, l.0, l.1) ]

literal_stops_of : (t : Option Ty) (s : Span) (m : Maker) (es : TypedExprs) (e : SourceError) → literal_made t s m es ≡ Err e → IsMismatch e
unfolding literal_made
literal_stops_of t s m es e p = fit_stops t s (tree.make (adt m.number [] m.arguments) s (Variant m.number m.variant) es) e p

-- a value without fields
alone_stops : (σ : Setting) (Γ : List Variable) (t : Option Ty) (s : Span) (w : PathNode) (m : Maker) (e : SourceError) → local_of Γ (name_alone w) ≡ None → maker_of σ.types Alone t s w ≡ Ok m → made_alone t s m ≡ Err e → IsMismatch e ⊎ IsNoValue σ Γ s w e
alone_stops σ Γ t s w m e none is p =
    elim (stop (no_field_left s m.fields) (literal_made t s m) e p) as (λ _. IsMismatch e ⊎ IsNoValue σ Γ s w e) [
      | inl q ↦ inr (none, t, ap (λ (n : Result Maker SourceError). n >>= λ k. no_field_left s k.fields) is ∙ q)
      | inr es ↦ inl (literal_stops_of t s m es.0 e es.2)
    ]

path_stops : (σ : Setting) (Γ : List Variable) (t : Option Ty) (s : Span) (w : PathNode) (o : Option Found) (e : SourceError) → local_of Γ (name_alone w) ≡ o → named_by σ.types t s w o ≡ Err e → IsMismatch e ⊎ IsNoValue σ Γ s w e
path_stops σ Γ t s w (Some v) e h p = inl (fit_stops t s (tree.variable v.ty s v.place) e p)
path_stops σ Γ t s w None e h p =
    elim (stop (maker_of σ.types Alone t s w) (made_alone t s) e p) as (λ _. IsMismatch e ⊎ IsNoValue σ Γ s w e) [
      | inl q ↦ inr (h, t, ap (λ (n : Result Maker SourceError). n >>= λ k. no_field_left s k.fields) q)
      | inr m ↦ alone_stops σ Γ t s w m.0 e h m.1 m.2
    ]

named_stops : (σ : Setting) (Γ : List Variable) (t : Option Ty) (s : Span) (w : PathNode) (e : SourceError) → named σ.types Γ t s w ≡ Err e → IsMismatch e ⊎ IsNoValue σ Γ s w e
unfolding named
named_stops σ Γ t s w e p = path_stops σ Γ t s w (local_of Γ (name_alone w)) e refl p

call_stops : (t : Option Ty) (s : Span) (c : Called) (es : TypedExprs) (e : SourceError) → call_of t s c es ≡ Err e → IsMismatch e
call_stops t s (of_function f) es e p = fit_stops t s (tree.call f.signature.answer s f.place es) e p
call_stops t s (of_maker m) es e p = literal_stops_of t s m es e p

called_stops : (t : Option Ty) (s : Span) (c : Called) (es : TypedExprs) (e : SourceError) → called t s c es ≡ Err e → IsMismatch e
unfolding called
called_stops t s c es e p = unheld (how_many es == length (params_of c)) (call_of t s c es) s e (call_stops t s c es e) p

not_built : {A : Type 0} (s : Span) (e : SourceError) → ◌≡◌ {A = Result A SourceError} (Err (unbuilt s)) (Err e) → IsUnbuilt e
not_built s e p = let q : unbuilt s ≡ e = cc in (s, sym q)

-- ---- statements

no_type : {A : Type 0} (a : A) (e : SourceError) → yes a ≡ Err e → ⊥
no_type a e p = cc

-- a `let` without a pattern that is refused is refused for its type
abbrev IsType : List AdtDecl → Option W.TypeTree → SourceError → Type 0
IsType ds w e = (v : W.TypeTree) × (w ≡ Some v) × (written_type ds v ≡ Err e)

some_type_stops : (ds : List AdtDecl) (w : Option W.TypeTree) (e : SourceError) → written_or_none ds w ≡ Err e → IsType ds w e
some_type_stops ds None e p = absurd (cc)
some_type_stops ds (Some w) e p =
    elim (stop (written_type ds w) _ e p) as (λ _. IsType ds (Some w) e) [ inl q ↦ (w, refl, q) | inr t ↦ absurd (no_type (Some t.0) e t.2) ]

name_stops : (s : Span) (o : Option Segment) (e : SourceError) → name_or s o ≡ Err e → IsUnbuilt e
name_stops s None e p = not_built {A = Declared} s e p
name_stops s (Some x) e p = absurd (cc)

pattern_stops : (w : P.Pat) (e : SourceError) → declared_by w ≡ Err e → IsUnbuilt e
unfolding declared_by
pattern_stops (P.mutable s x) e p = absurd (cc)
pattern_stops (P.path s w) e p = name_stops s (name_alone w.node) e p
pattern_stops w e p = not_built {A = Declared} _ e p

step_stops : (σ : Setting) (k : StmtKind) (e : SourceError) → step_of σ.types k ≡ Err e → IsUnbuilt e ⊎ IsNoType σ k e
unfolding step_of
step_stops σ (kind.Let w t) e p =
    elim (stop (declared_by w) _ e p) as (λ _. IsUnbuilt e ⊎ IsNoType σ (kind.Let w t) e) [
      | inl q ↦ inl (pattern_stops w e q)
      | inr x ↦ elim (stop (written_or_none σ.types t) _ e x.2) as (λ _. IsUnbuilt e ⊎ IsNoType σ (kind.Let w t) e) [
        | inl q ↦ inr (some_type_stops σ.types t e q)
        | inr u ↦ (let step : Step = record { declares = Some x.0; expected = u.0 } in absurd (no_type step e u.2))
      ]
    ]
step_stops σ kind.Run e p = absurd (cc)
step_stops σ kind.Blocklike e p = absurd (cc)

-- ---- loops

invariant_stops : (ds : List AdtDecl) (Γ : List Variable) (s : Span) (n : AttributeNode) (e : SourceError) → invariant_by ds Γ s n ≡ Err e → IsUnbuilt e
invariant_stops ds Γ s (A.Clause Invariant t) e p = absurd (cc)
invariant_stops ds Γ s A.Skipped e p = absurd (cc)
invariant_stops ds Γ s n e p = not_built {A = Option Assertion} s e p

attribute_stops : (ds : List AdtDecl) (Γ : List Variable) (a : Attribute) (e : SourceError) → invariant_of ds Γ a ≡ Err e → IsUnbuilt e
unfolding invariant_of
attribute_stops ds Γ a e p = invariant_stops ds Γ a.span a.node e p

invariants_stop : (ds : List AdtDecl) (Γ : List Variable) (as' : List Attribute) (e : SourceError) → gather (invariant_of ds Γ) as' ≡ Err e → IsUnbuilt e
invariants_stop ds Γ [] e p = absurd (cc)
invariants_stop ds Γ (a ∷ as') e p =
    elim (stop (invariant_of ds Γ a) _ e p) as (λ _. IsUnbuilt e) [
      | inl q ↦ attribute_stops ds Γ a e q
      | inr o ↦ elim (stop (gather (invariant_of ds Γ) as') _ e o.2) as (λ _. IsUnbuilt e) [
        | inl q ↦ invariants_stop ds Γ as' e q
        | inr rest ↦ absurd (no_type (with_some o.0 rest.0) e rest.2)
      ]
    ]

endless_at : (k : Bool) (t : Option Ty) (s : Span) (is : List Assertion) (b : TypedExpr) (e : SourceError) → (if k then fit t s (tree.until_break unit s is b) else yes (tree.endless (asked t) s is b)) ≡ Err e → IsMismatch e
endless_at true t s is b e p = fit_stops t s (tree.until_break unit s is b) e p
endless_at false t s is b e p = absurd (no_type (tree.endless (asked t) s is b) e p)

endless_stops : (t : Option Ty) (s : Span) (is : List Assertion) (b : TypedExpr) (e : SourceError) → endless t s is b ≡ Err e → IsMismatch e
unfolding endless
endless_stops t s is b e p = endless_at (breaks b) t s is b e p

in_no_loop : (k : Bool) (s : Span) (a : TypedExpr) (e : SourceError) → in_a_loop k s a ≡ Err e → (k ≡ false) × (e ≡ mismatch s)
in_no_loop true s a e p = absurd (no_type a e p)
in_no_loop false s a e p = let q : mismatch s ≡ e = cc in (refl, sym q)

no_arm : (x : TypedArm) (e : SourceError) → yes x ≡ Err e → ⊥
no_arm x e p = cc

no_args : (es : TypedExprs) (e : SourceError) → yes es ≡ Err e → ⊥
no_args es e p = cc

-- the pattern of an arm is refused, or its body
arm_stops : (σ : Setting) (Γ : List Variable) (v : TypedExpr) (w : P.Pat) (body : Binding → Typed) (cause : List Variable → Type 0) (e : SourceError) → ((b : Binding) → body b ≡ Err e → cause (in_arm Γ b.1))
    → arm_from (pattern_at σ.types (ty_of v) w) body ≡ Err e → IsNoPattern σ v w e ⊎ ((b : Binding) × (pattern_at σ.types (ty_of v) w ≡ Ok b) × cause (in_arm Γ b.1))
arm_stops σ Γ v w body cause e each p =
    elim (stop (pattern_at σ.types (ty_of v) w) _ e p) as (λ _. IsNoPattern σ v w e ⊎ ((b : Binding) × (pattern_at σ.types (ty_of v) w ≡ Ok b) × cause (in_arm Γ b.1))) [
      | inl q ↦ inl q
      | inr b ↦ elim (stop (body b.0) _ e b.2) as (λ _. IsNoPattern σ v w e ⊎ ((b : Binding) × (pattern_at σ.types (ty_of v) w ≡ Ok b) × cause (in_arm Γ b.1))) [
        | inl q ↦ inr (b.0, b.1, each b.0 q)
        | inr y ↦ absurd (no_arm (arm_of b.0 y.0) e y.2)
      ]
    ]

-- ---- expressions

mutual
  pub typed_stops : (σ : Setting) (Γ : List Variable) (a : Expr) (t : Option Ty) (e : SourceError) → typed σ Γ a t ≡ Err e → Causes σ Γ a e
  typed_stops σ Γ (E.integer s z k) t e p = literal_stops t s z k e p
  typed_stops σ Γ (E.truth s b) t e p = fit_stops t s (tree.truth bool s b) e p
  typed_stops σ Γ (E.path s w) t e p = named_stops σ Γ t s w.node e p
  typed_stops σ Γ (E.unary s Neg o a) t e p =
      elim (stop (typed σ Γ a t) _ e p) as (λ _. Causes σ Γ (E.unary s Neg o a) e) [
        | inl q ↦ inr (typed_stops σ Γ a t e q)
        | inr x ↦ inl (negated_stops t s o (span_of a) x.0 e x.2)
      ]
  typed_stops σ Γ (E.unary s Not o a) t e p =
      elim (stop (typed σ Γ a (Some bool)) _ e p) as (λ _. Causes σ Γ (E.unary s Not o a) e) [
        | inl q ↦ inr (typed_stops σ Γ a (Some bool) e q)
        | inr x ↦ inl (fit_stops t s (tree.denied bool s x.0) e x.2)
      ]
  typed_stops σ Γ (E.cast s a w) t e p =
      elim (stop (cast_parts (is_bare a) (typed σ Γ a) (written_type σ.types w)) _ e p) as (λ _. Causes σ Γ (E.cast s a w) e) [
        | inl q ↦ elim (cast_parts_stop (is_bare a) (typed σ Γ a) (written_type σ.types w) e q) as (λ _. Causes σ Γ (E.cast s a w) e) [
          | inl x ↦ inr (typed_stops σ Γ a x.0 e x.1)
          | inr y ↦ inl (inr y)
        ]
        | inr x ↦ inl (inl (widened_stops t s (span_of a) (type_span w) x.0 e x.2))
      ]
  typed_stops σ Γ (E.binary s op o a b) t e p =
      elim (stop (operands (order_of (is_arithmetic op) t (is_bare a) (is_bare b)) (typed σ Γ a) (typed σ Γ b)) _ e p) as (λ _. Causes σ Γ (E.binary s op o a b) e) [
        | inl q ↦ elim (operands_stop (order_of (is_arithmetic op) t (is_bare a) (is_bare b)) (typed σ Γ a) (typed σ Γ b) e q) as (λ _. Causes σ Γ (E.binary s op o a b) e) [
          | inl x ↦ inr (inl (typed_stops σ Γ a x.0 e x.1))
          | inr y ↦ inr (inr (typed_stops σ Γ b y.0 e y.1))
        ]
        | inr x ↦ inl (operated_stops t s o (span_of a) op x.0 e x.2)
      ]
  typed_stops σ Γ (E.lazy s op a b) t e p =
      elim (stop (typed σ Γ a (Some bool)) _ e p) as (λ _. Causes σ Γ (E.lazy s op a b) e) [
        | inl q ↦ inr (inl (typed_stops σ Γ a (Some bool) e q))
        | inr x ↦ elim (stop (typed σ Γ b (Some bool)) _ e x.2) as (λ _. Causes σ Γ (E.lazy s op a b) e) [
          | inl q ↦ inr (inr (typed_stops σ Γ b (Some bool) e q))
          | inr y ↦ inl (fit_stops t s (tree.lazy bool s op x.0 y.0) e y.2)
        ]
      ]
  typed_stops σ Γ (E.assign s l a) t e p =
      assignment_stops σ Γ l a (assigned Γ t s (span_of l)) e (λ x y q. assigned_stops Γ t s (span_of l) x y e q)
      (λ q. typed_stops σ Γ l None e q) (λ u q. typed_stops σ Γ a u e q) p
  typed_stops σ Γ (E.update s op o l a) t e p =
      assignment_stops σ Γ l a (updated Γ t s o (span_of l) op) e (λ x y q. updated_stops Γ t s o (span_of l) op x y e q)
      (λ q. typed_stops σ Γ l None e q) (λ u q. typed_stops σ Γ a u e q) p
  typed_stops σ Γ (E.call s f es) t e p =
      elim (stop (callee_of σ Γ t s f) _ e p) as (λ _. Causes σ Γ (E.call s f es) e) [
        | inl q ↦ inl (inr (t, q))
        | inr g ↦ elim (stop (typed_args σ Γ es (params_of g.0)) _ e g.2) as (λ _. Causes σ Γ (E.call s f es) e) [
          | inl q ↦ inr (args_stop σ Γ es (params_of g.0) e q)
          | inr y ↦ inl (inl (called_stops t s g.0 y.0 e y.2))
        ]
      ]
  typed_stops σ Γ (E.tuple s es) t e p =
      elim (stop (typed_args σ Γ es (parts_of t)) _ e p) as (λ _. Causes σ Γ (E.tuple s es) e) [
        | inl q ↦ inr (args_stop σ Γ es (parts_of t) e q)
        | inr y ↦ inl (tupled_stops t s y.0 e y.2)
      ]
  typed_stops σ Γ (E.part s a k) t e p =
      elim (stop (typed σ Γ a None) _ e p) as (λ _. Causes σ Γ (E.part s a k) e) [
        | inl q ↦ inr (typed_stops σ Γ a None e q)
        | inr v ↦ inl (parted_stops σ Γ a t s k v.0 e v.1 v.2)
      ]
  typed_stops σ Γ (E.field s a x []) t e p =
      elim (stop (typed σ Γ a None) _ e p) as (λ _. Causes σ Γ (E.field s a x []) e) [
        | inl q ↦ inr (typed_stops σ Γ a None e q)
        | inr v ↦ inl (selected_stops σ Γ a t s x v.0 e v.1 v.2)
      ]
  typed_stops σ Γ (E.literal s w fs) t e p =
      elim (stop (maker_of σ.types Named t s w.node) _ e p) as (λ _. Causes σ Γ (E.literal s w fs) e) [
        | inl q ↦ inl (inr (t, q))
        | inr m ↦ elim (stop (typed_fields σ Γ s m.0 m.0.fields fs) _ e m.2) as (λ _. Causes σ Γ (E.literal s w fs) e) [
          | inl q ↦ inr (m.0, fields_stop σ Γ s m.0 m.0.fields fs e q)
          | inr y ↦ inl (inl (literal_stops_of t s m.0 y.0 e y.2))
        ]
      ]
  typed_stops σ Γ (E.block s ss) t e p =
      elim (stop (typed_stmts σ Γ ss) _ e p) as (λ _. Causes σ Γ (E.block s ss) e) [
        | inl q ↦ inr (stmts_stop σ Γ ss e q)
        | inr o ↦ inl (closed_stops t s (without_last o.0.stmts) e o.2)
      ]
  typed_stops σ Γ (E.block_with s ss a) t e p =
      elim (stop (typed_stmts σ Γ ss) _ e p) as (λ _. Causes σ Γ (E.block_with s ss a) e) [
        | inl q ↦ inr (inl (stmts_stop σ Γ ss e q))
        | inr o ↦ elim (stop (typed σ o.0.scope a t) _ e o.2) as (λ _. Causes σ Γ (E.block_with s ss a) e) [
          | inl q ↦ inr (inr (o.0, o.1, typed_stops σ o.0.scope a t e q))
          | inr x ↦ inl (closed_stops t s (stmts_of o.0.stmts (tree.last x.0)) e x.2)
        ]
      ]
  typed_stops σ Γ (E.branch s None c a) t e p =
      elim (stop (typed σ Γ c (Some bool)) _ e p) as (λ _. Causes σ Γ (E.branch s None c a) e) [
        | inl q ↦ inr (inl (typed_stops σ Γ c (Some bool) e q))
        | inr x ↦ elim (stop (typed σ Γ a (Some unit)) _ e x.2) as (λ _. Causes σ Γ (E.branch s None c a) e) [
          | inl q ↦ inr (inr (typed_stops σ Γ a (Some unit) e q))
          | inr y ↦ inl (fit_stops t s (tree.branch unit s x.0 y.0) e y.2)
        ]
      ]
  typed_stops σ Γ (E.choice s None c a b) t e p =
      elim (stop (typed σ Γ c (Some bool)) _ e p) as (λ _. Causes σ Γ (E.choice s None c a b) e) [
        | inl q ↦ inr (inl (typed_stops σ Γ c (Some bool) e q))
        | inr x ↦ elim (stop (typed σ Γ a t) _ e x.2) as (λ _. Causes σ Γ (E.choice s None c a b) e) [
          | inl q ↦ inr (inr (inl (typed_stops σ Γ a t e q)))
          | inr y ↦ elim (stop (typed σ Γ b (given t y.0)) _ e y.2) as (λ _. Causes σ Γ (E.choice s None c a b) e) [
            | inl q ↦ inr (inr (inr (typed_stops σ Γ b (given t y.0) e q)))
            | inr z ↦ inl (fit_stops t s (tree.choice (choice_ty y.0 z.0) s x.0 y.0 z.0) e z.2)
          ]
        ]
      ]
  typed_stops σ Γ (E.branch s (Some w) c a) t e p =
      elim (stop (typed σ Γ c None) _ e p) as (λ _. Causes σ Γ (E.branch s (Some w) c a) e) [
        | inl q ↦ inr (inl (typed_stops σ Γ c None e q))
        | inr v ↦ elim (stop (typed_arm σ Γ (ty_of v.0) (Some unit) w a) _ e v.2) as (λ _. Causes σ Γ (E.branch s (Some w) c a) e) [
          | inl q ↦ inr (inr (v.0, v.1, arm_stops σ Γ v.0 w (λ b. typed σ (in_arm Γ b.1) a (Some unit)) (λ Δ. Causes σ Δ a e) e (λ b h. typed_stops σ (in_arm Γ b.1) a (Some unit) e h) q))
          | inr x ↦ inl (fit_stops t s (tree.matched unit s v.0 (or_else_arm (ty_of v.0) x.0 (nothing s))) e x.2)
        ]
      ]
  typed_stops σ Γ (E.choice s (Some w) c a b) t e p =
      elim (stop (typed σ Γ c None) _ e p) as (λ _. Causes σ Γ (E.choice s (Some w) c a b) e) [
        | inl q ↦ inr (inl (typed_stops σ Γ c None e q))
        | inr v ↦ elim (stop (typed_arm σ Γ (ty_of v.0) t w a) _ e v.2) as (λ _. Causes σ Γ (E.choice s (Some w) c a b) e) [
          | inl q ↦ inr (inr (inl (v.0, v.1, arm_stops σ Γ v.0 w (λ b. typed σ (in_arm Γ b.1) a t) (λ Δ. Causes σ Δ a e) e (λ b h. typed_stops σ (in_arm Γ b.1) a t e h) q)))
          | inr x ↦ elim (stop (typed σ Γ b (given t x.0.body)) _ e x.2) as (λ _. Causes σ Γ (E.choice s (Some w) c a b) e) [
            | inl q ↦ inr (inr (inr (typed_stops σ Γ b (given t x.0.body) e q)))
            | inr z ↦ inl (fit_stops t s (tree.matched (asked (given (given t x.0.body) z.0)) s v.0 (or_else_arm (ty_of v.0) x.0 z.0)) e z.2)
          ]
        ]
      ]
  typed_stops σ Γ (E.matching s c as') t e p =
      elim (stop (typed σ Γ c None) _ e p) as (λ _. Causes σ Γ (E.matching s c as') e) [
        | inl q ↦ inr (inl (typed_stops σ Γ c None e q))
        | inr v ↦ elim (stop (typed_arms σ Γ (ty_of v.0) t tree.no_arms as') _ e v.2) as (λ _. Causes σ Γ (E.matching s c as') e) [
          | inl q ↦ inr (inr (arms_stop σ Γ c v.0 t tree.no_arms as' e v.1 q))
          | inr x ↦ inl (fit_stops t s (tree.matched (asked x.0.1) s v.0 x.0.0) e x.2)
        ]
      ]
  typed_stops σ Γ (E.repeat s None c b) t e p =
      elim (stop (typed (outside σ) Γ c (Some bool)) _ e p) as (λ _. Causes σ Γ (E.repeat s None c b) e) [
        | inl q ↦ inr (inl (typed_stops (outside σ) Γ c (Some bool) e q))
        | inr x ↦ elim (stop (typed (looping σ) Γ b (Some unit)) _ e x.2) as (λ _. Causes σ Γ (E.repeat s None c b) e) [
          | inl q ↦ inr (inr (typed_stops (looping σ) Γ b (Some unit) e q))
          | inr y ↦ inl (fit_stops t s (tree.repeat unit s [] x.0 y.0) e y.2)
        ]
      ]
  typed_stops σ Γ (E.attributed s as' (E.repeat v None c b)) t e p =
      elim (stop (gather (invariant_of σ.types Γ) as') _ e p) as (λ _. Causes σ Γ (E.attributed s as' (E.repeat v None c b)) e) [
        | inl q ↦ inl (inr (invariants_stop σ.types Γ as' e q))
        | inr is ↦ elim (stop (typed (outside σ) Γ c (Some bool)) _ e is.2) as (λ _. Causes σ Γ (E.attributed s as' (E.repeat v None c b)) e) [
          | inl q ↦ inr (inl (typed_stops (outside σ) Γ c (Some bool) e q))
          | inr x ↦ elim (stop (typed (looping σ) Γ b (Some unit)) _ e x.2) as (λ _. Causes σ Γ (E.attributed s as' (E.repeat v None c b)) e) [
            | inl q ↦ inr (inr (typed_stops (looping σ) Γ b (Some unit) e q))
            | inr y ↦ inl (inl (fit_stops t s (tree.repeat unit s is.0 x.0 y.0) e y.2))
          ]
        ]
      ]
  typed_stops σ Γ (E.repeat s (Some w) c b) t e p =
      elim (stop (typed (outside σ) Γ c None) _ e p) as (λ _. Causes σ Γ (E.repeat s (Some w) c b) e) [
        | inl q ↦ inr (inl (typed_stops (outside σ) Γ c None e q))
        | inr v ↦ elim (stop (typed_arm (looping σ) Γ (ty_of v.0) (Some unit) w b) _ e v.2) as (λ _. Causes σ Γ (E.repeat s (Some w) c b) e) [
          | inl q ↦ inr (inr (v.0, v.1, arm_stops (outside σ) Γ v.0 w (λ g. typed (looping σ) (in_arm Γ g.1) b (Some unit)) (λ Δ. Causes (looping σ) Δ b e) e (λ g h. typed_stops (looping σ) (in_arm Γ g.1) b (Some unit) e h) q))
          | inr x ↦ inl (fit_stops t s (repeated_by s [] v.0 x.0) e x.2)
        ]
      ]
  typed_stops σ Γ (E.attributed s as' (E.repeat y (Some w) c b)) t e p =
      elim (stop (gather (invariant_of σ.types Γ) as') _ e p) as (λ _. Causes σ Γ (E.attributed s as' (E.repeat y (Some w) c b)) e) [
        | inl q ↦ inl (inr (invariants_stop σ.types Γ as' e q))
        | inr is ↦ elim (stop (typed (outside σ) Γ c None) _ e is.2) as (λ _. Causes σ Γ (E.attributed s as' (E.repeat y (Some w) c b)) e) [
          | inl q ↦ inr (inl (typed_stops (outside σ) Γ c None e q))
          | inr v ↦ elim (stop (typed_arm (looping σ) Γ (ty_of v.0) (Some unit) w b) _ e v.2) as (λ _. Causes σ Γ (E.attributed s as' (E.repeat y (Some w) c b)) e) [
            | inl q ↦ inr (inr (v.0, v.1, arm_stops (outside σ) Γ v.0 w (λ g. typed (looping σ) (in_arm Γ g.1) b (Some unit)) (λ Δ. Causes (looping σ) Δ b e) e (λ g h. typed_stops (looping σ) (in_arm Γ g.1) b (Some unit) e h) q))
            | inr x ↦ inl (inl (fit_stops t s (repeated_by s is.0 v.0 x.0) e x.2))
          ]
        ]
      ]
  typed_stops σ Γ (E.panic s m text) t e p = no_type (tree.panics (asked t) s (cause_of m)) e p
  typed_stops σ Γ (E.bare_return s) t e p = unheld (same_ty unit σ.answer) (Ok (returned t s (nothing s))) s e (λ q. absurd (cc)) p
  typed_stops σ Γ (E.return_with s a) t e p =
      elim (stop (typed σ Γ a (Some σ.answer)) _ e p) as (λ _. Causes σ Γ (E.return_with s a) e) [
        | inl q ↦ typed_stops σ Γ a (Some σ.answer) e q
        | inr x ↦ absurd (no_type (returned t s x.0) e x.2)
      ]
  typed_stops σ Γ (E.endless s b) t e p =
      elim (stop (typed (looping σ) Γ b (Some unit)) _ e p) as (λ _. Causes σ Γ (E.endless s b) e) [
        | inl q ↦ inr (typed_stops (looping σ) Γ b (Some unit) e q)
        | inr x ↦ inl (endless_stops t s [] x.0 e x.2)
      ]
  typed_stops σ Γ (E.attributed s as' (E.endless v b)) t e p =
      elim (stop (gather (invariant_of σ.types Γ) as') _ e p) as (λ _. Causes σ Γ (E.attributed s as' (E.endless v b)) e) [
        | inl q ↦ inl (inr (invariants_stop σ.types Γ as' e q))
        | inr is ↦ elim (stop (typed (looping σ) Γ b (Some unit)) _ e is.2) as (λ _. Causes σ Γ (E.attributed s as' (E.endless v b)) e) [
          | inl q ↦ inr (typed_stops (looping σ) Γ b (Some unit) e q)
          | inr x ↦ inl (inl (endless_stops t s is.0 x.0 e x.2))
        ]
      ]
  typed_stops σ Γ (E.break_off s) t e p = in_no_loop σ.in_loop s (tree.break_off (asked t) s) e p
  typed_stops σ Γ (E.go_on s) t e p = in_no_loop σ.in_loop s (tree.go_on (asked t) s) e p
  typed_stops σ Γ a t e p = let q : unbuilt (span_of a) ≡ e = cc in sym q

  stmts_stop : (σ : Setting) (Γ : List Variable) (ss : E.Stmts) (e : SourceError) → typed_stmts σ Γ ss ≡ Err e → CausesInStmts σ Γ ss e
  stmts_stop σ Γ E.no_stmts e p = absurd (cc)
  stmts_stop σ Γ (E.with_stmt s k a ss) e p =
      elim (stop (step_of σ.types k) _ e p) as (λ _. CausesInStmts σ Γ (E.with_stmt s k a ss) e) [
        | inl q ↦ inl (step_stops σ k e q)
        | inr w ↦ elim (stop (typed σ Γ a w.0.expected) _ e w.2) as (λ _. CausesInStmts σ Γ (E.with_stmt s k a ss) e) [
          | inl q ↦ inr (inl (typed_stops σ Γ a w.0.expected e q))
          | inr x ↦ elim (stop (typed_stmts σ (declared Γ w.0.declares x.0) ss) _ e x.2) as (λ _. CausesInStmts σ Γ (E.with_stmt s k a ss) e) [
            | inl q ↦ inr (inr (w.0, x.0, w.1, x.1, stmts_stop σ (declared Γ w.0.declares x.0) ss e q))
            | inr o ↦ absurd (no_type (behind (typed_stmt w.0 x.0) o.0) e o.2)
          ]
        ]
      ]

  args_stop : (σ : Setting) (Γ : List Variable) (es : E.Exprs) (ts : List Ty) (e : SourceError) → typed_args σ Γ es ts ≡ Err e → CausesInArgs σ Γ es e
  args_stop σ Γ E.none ts e p = absurd (cc)
  args_stop σ Γ (E.more a es) ts e p =
      elim (stop (typed σ Γ a (first_of ts)) _ e p) as (λ _. CausesInArgs σ Γ (E.more a es) e) [
        | inl q ↦ inl (typed_stops σ Γ a (first_of ts) e q)
        | inr x ↦ elim (stop (typed_args σ Γ es (rest_of ts)) _ e x.2) as (λ _. CausesInArgs σ Γ (E.more a es) e) [
          | inl q ↦ inr (args_stop σ Γ es (rest_of ts) e q)
          | inr y ↦ absurd (no_args (tree.more x.0 y.0) e y.2)
        ]
      ]

  fields_stop : (σ : Setting) (Γ : List Variable) (s : Span) (m : Maker) (left : List FieldDecl) (fs : E.FieldExprs) (e : SourceError) → typed_fields σ Γ s m left fs ≡ Err e → CausesInFields σ Γ s m left fs e
  fields_stop σ Γ s m left E.no_fields e p = p
  fields_stop σ Γ s m left (E.with_field w x a fs) e p =
      elim (stop (next_field σ.types m left x) _ e p) as (λ _. CausesInFields σ Γ s m left (E.with_field w x a fs) e) [
        | inl q ↦ inl q
        | inr u ↦ elim (stop (typed σ Γ a (Some u.0)) _ e u.2) as (λ _. CausesInFields σ Γ s m left (E.with_field w x a fs) e) [
          | inl q ↦ inr (inl (typed_stops σ Γ a (Some u.0) e q))
          | inr v ↦ elim (stop (typed_fields σ Γ s m (fields_behind left) fs) _ e v.2) as (λ _. CausesInFields σ Γ s m left (E.with_field w x a fs) e) [
            | inl q ↦ inr (inr (fields_stop σ Γ s m (fields_behind left) fs e q))
            | inr y ↦ absurd (no_args (tree.more v.0 y.0) e y.2)
          ]
        ]
      ]

  arms_stop : (σ : Setting) (Γ : List Variable) (c : Expr) (v : TypedExpr) (t : Option Ty) (made : TypedArms) (as' : E.Arms) (e : SourceError) → typed σ Γ c None ≡ Ok v → typed_arms σ Γ (ty_of v) t made as' ≡ Err e → CausesInArms σ Γ c as' e
  arms_stop σ Γ c v t made E.no_arms e h p = absurd (cc)
  arms_stop σ Γ c v t made (E.with_arm s w a as') e h p =
      elim (stop (typed_arm σ Γ (ty_of v) t w a) _ e p) as (λ _. CausesInArms σ Γ c (E.with_arm s w a as') e) [
        | inl q ↦ inl (v, h, arm_stops σ Γ v w (λ b. typed σ (in_arm Γ b.1) a t) (λ Δ. Causes σ Δ a e) e (λ b k. typed_stops σ (in_arm Γ b.1) a t e k) q)
        | inr x ↦ inr (arms_stop σ Γ c v (given t x.0.body) (and_arm made x.0) as' e h x.2)
      ]
