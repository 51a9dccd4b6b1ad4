-- What typing gives fits: each part has the type that its place asks for.
use Rattle.std.proofs.Common.{◌≡◌, ◌∙◌, inl, inr, ℕ, suc, ◌==◌, Bool, true, false, List, [], ◌∷◌, ◌++◌, length, Option, Some, None, Result, Ok, Err, map, refl, ap, ap₂, sym, subst, arith}
use Rattle.std.specs.Prelude.{ℤ, slice_get, if◌then◌else◌}
use Rattle.logic_term.proofs.FreeLaw.{same_test}
use Rattle.text_core.specs.declared.name.Name.{Name}
use Rattle.text_core.specs.declared.span.Span.{Span}
use Rattle.source_kinds.specs.declared.kinds.BinaryOp.{BinaryOp}
use Rattle.source_kinds.specs.declared.kinds.IntKind.{IntKind}
use Rattle.source_kinds.specs.Range.{fits, widens}
use Rattle.logic_term.specs.declared.declaration.AdtDecl.{AdtDecl}
use Rattle.logic_term.specs.declared.declaration.FieldDecl.{FieldDecl}
use Rattle.logic_term.specs.declared.declaration.VariantKind.TheVariants.{Named, Numbered, Unit as Alone}
use Rattle.logic_term.specs.declared.kinds.Ctor.TheVariants.{Tuple, Variant}
use Rattle.logic_term.specs.Sort.{instances}
use Rattle.logic_term.specs.Theory.{field_ty}
use Rattle.logic_term.specs.Ty.{Ty, Tys, int, bool, tuple, adt, no_tys, and_ty}
use Rattle.logic_term.specs.TyView.{tys_of}
use Rattle.source_trees.specs.declared.attribute.Attribute.{Attribute}
use Rattle.source_trees.specs.declared.attribute.AttributeNode.{AttributeNode}
use Rattle.source_trees.specs.declared.attribute.AttributeNode.TheVariants as A
use Rattle.source_trees.specs.declared.attribute.ClauseKind.TheVariants.{Invariant}
use Rattle.source_trees.specs.declared.operator.PanicMacro.{PanicMacro}
use Rattle.source_trees.specs.declared.operator.UnaryOp.TheVariants.{Neg, Not}
use Rattle.source_trees.specs.declared.path.Number.{Number}
use Rattle.source_trees.specs.declared.path.PathNode.{PathNode}
use Rattle.source_trees.specs.declared.path.Segment.{Segment}
use Rattle.source_trees.specs.declared.statement.StmtKind.{StmtKind}
use Rattle.source_trees.specs.declared.statement.StmtKind.TheVariants as kind
use Rattle.source_trees.specs.Expr as E
use Rattle.source_trees.specs.Expr.{Expr}
use Rattle.source_trees.specs.ExprView.{span_of}
use Rattle.source_trees.specs.TypeTree.{TypeTree}
use Rattle.source_trees.specs.TypeTreeView.{span_of as type_span}
use Rattle.type_check.specs.declared.assertion.Assertion.{Assertion}
use Rattle.type_check.specs.declared.heading.Callee.{Callee}
use Rattle.type_check.specs.declared.operands.Operands.{Operands}
use Rattle.type_check.specs.declared.operands.Order.{Order}
use Rattle.type_check.specs.declared.operands.Order.TheVariants as order
use Rattle.type_check.specs.declared.scope.Declared.{Declared}
use Rattle.type_check.specs.declared.scope.Found.{Found}
use Rattle.type_check.specs.declared.scope.Variable.{Variable}
use Rattle.type_check.specs.declared.statements.Step.{Step}
use Rattle.type_check.specs.declared.typed.TypedStmt.{TypedStmt}
use Rattle.text_core.specs.declared.refusal.SourceError.{SourceError}
use Rattle.type_check.specs.Answers.{mismatch, unbuilt, unknown_name, not_mutable, with_some, gather}
use Rattle.type_check.specs.Arms.{in_arm, and_arm}
use Rattle.type_check.specs.Makers.{Maker, maker_of}
use Rattle.type_check.specs.Functions.{function_from}
use Rattle.type_check.specs.Leaves.{leaves}
use Rattle.type_check.specs.Scope.{found}
use Rattle.type_check.specs.Breaks.{breaks}
use Rattle.type_check.specs.Setting.{Setting, within_loop, looping, outside}
use Rattle.type_check.specs.Terms.{assertion}
use Rattle.type_check.specs.TypedExpr.{TypedExpr, TypedStmts, TypedExprs, TypedArms}
use Rattle.type_check.specs.TypedExpr as tree
use Rattle.type_check.specs.TypedExprView.{ty_of, stmt_of, stmts_of}
use Rattle.type_check.specs.Types.{same_ty, is_signed_ty, is_built, are_built}
use Rattle.type_check.specs.Typing.{Typed, fit, literal_kind, literal_of, literal, negated, is_bare, order_without, order_of, operands_of, operands, operation, operated, cast_parts, cast_from, widened, may_write, if_mutable, writing, assigned}
use Rattle.type_check.specs.Typing.{is_updated, updated, local_of, made_alone, named_by, named, Called, of_function, of_maker, field_tys, maker_called, constructor_called, or_constructor, unless_local, called_by, callee_of, params_of, how_many, first_of, rest_of, call_of, called, block_ty, declared, Opened, opened, typed_stmt, behind, without_last, closed, asked, given, choice_ty, cause_of, panicked, nothing, returned, bare_return, endless, in_a_loop, invariant_by, invariant_of, listed, parts_of, tupled, is_boxed, part_number, part_if, field_of, part_by, parted, selected, typed, typed_stmts, typed_args, typed_fields, typed_arm, typed_arms}
use Rattle.type_check.specs.Typing.{not_next, built_field, next_field, fields_behind, no_field_left, literal_made}
use Rattle.type_check.specs.WellTyped.{unit, Surroundings, IsBuilt, PartsAreBuilt, AllBuilt, field_at, part_ty, tys_of_exprs, PartsFit, is_arithmetic, is_equality, operation_ty, is_signed, IsOf, IsOfOrLeaves, SpeaksOf, EachSpeaks, IsWellTyped, StatementsFit, ArgumentsFit}
use Rattle.type_check.specs.Written.{name_alone, written_type, written_or_none, declared_by, step_of}
use Rattle.type_check.proofs.Bound.{bound, held, yes, same_ok}
use Rattle.type_check.proofs.Makers.{IsMaker, maker_sound}
use Rattle.type_check.proofs.Lookups.{types, signatures_at, surroundings, found_type, callee_signature}
use Rattle.logic_elab.proofs.SameSorts.{equal_types}
use Rattle.type_check.proofs.Speaking.{assertion_speaks}
use Rattle.type_check.proofs.StatementLists.{block_ty_after, stmt_ty}
use Rattle.type_check.proofs.BuiltTypes.{both, built_is_built}
pub use Rattle.type_check.proofs.Sound.{Meets, Sound, MayAsk, Around, fit_same}
use Rattle.type_check.proofs.Sound.{built_at, fit_sound, asked_built, given_built, types-append, all_built_append}
use Rattle.type_check.proofs.ArmsFit.{AllMeet, arm_meets, arm_sound, matched_sound, chosen_sound, branched_sound, repeated_sound}
use Rattle.type_check.proofs.FoundParts.{field_has_type, number_has_type}
use Rattle.type_check.proofs.WrittenTypes.{type_built}

-- ---- literals and names

literal_at : (σ : Setting) (Γ : List Variable) (t : Option Ty) (s : Span) (z : ℤ) (k : Option IntKind) (r : TypedExpr) → literal_of t s z k ≡ Ok r → Sound σ Γ t r
literal_at σ Γ t s z None r p = absurd (cc)
literal_at σ Γ t s z (Some k) r p =
    let c = held (fits k z) (fit t s (tree.integer (int k) s z k)) (mismatch s) r p in
    fit_sound σ Γ t s (tree.integer (int k) s z k) r (refl, c.0) tt c.1

literal_sound : (σ : Setting) (Γ : List Variable) (t : Option Ty) (s : Span) (z : ℤ) (k : Option IntKind) (r : TypedExpr) → literal t s z k ≡ Ok r → Sound σ Γ t r
unfolding literal
literal_sound σ Γ t s z k r p = literal_at σ Γ t s z (literal_kind k t) r p

-- ---- operators

signed_int : (u : Ty) → is_signed_ty u ≡ true → (k : IntKind) × (is_signed k ≡ true) × (u ≡ int k)
signed_int (int k) p = (k, p, refl)
signed_int u p = absurd (cc)

negated_sound : (σ : Setting) (Γ : List Variable) (t : Option Ty) (s o r : Span) (a e : TypedExpr) → IsWellTyped (surroundings σ) (types Γ) a → negated t s o r a ≡ Ok e → Sound σ Γ t e
unfolding negated
negated_sound σ Γ t s o r a e w p =
    let c = held (is_signed_ty (ty_of a)) (fit t s (tree.negative (ty_of a) o a)) (mismatch r) e p in
    let k = signed_int (ty_of a) c.0 in
    fit_sound σ Γ t s (tree.negative (ty_of a) o a) e (k.0, k.1, k.2, k.2, w) (subst IsBuilt (sym k.2) tt) c.1

pub record BothSound (σ : Setting) (Γ : List Variable) (p : Operands) : Type 0 where
  pub left : IsWellTyped (surroundings σ) (types Γ) p.left
  pub right : IsWellTyped (surroundings σ) (types Γ) p.right
  pub same : IsOf (ty_of p.left) p.right

either_built : (b : Bool) (k : IntKind) → IsBuilt (if b then int k else bool)
either_built true k = tt
either_built false k = tt

equality_built : (b : Bool) (u : Ty) → (if b then Some bool else None) ≡ Some u → IsBuilt u
equality_built true u p = let q : bool ≡ u = cc in subst IsBuilt q tt
equality_built false u p = absurd (cc)

operation_built : (op : BinaryOp) (t u : Ty) → operation_ty op t ≡ Some u → IsBuilt u
operation_built op (int k) u p = let q : (if is_arithmetic op then int k else bool) ≡ u = cc in subst IsBuilt q (either_built (is_arithmetic op) k)
operation_built op bool u p = equality_built (is_equality op) u p
operation_built op t u p = absurd (cc)

operation_sound : (σ : Setting) (Γ : List Variable) (u t : Option Ty) (s o r : Span) (op : BinaryOp) (p : Operands) (e : TypedExpr) → operation_ty op (ty_of p.left) ≡ u → BothSound σ Γ p → operation u t s o r op p ≡ Ok e → Sound σ Γ t e
operation_sound σ Γ None t s o r op p e q b h = absurd (cc)
operation_sound σ Γ (Some u) t s o r op p e q b h = fit_sound σ Γ t s (tree.binary u o op p.left p.right) e (q, b.same, b.left, b.right) (operation_built op (ty_of p.left) u q) h

operated_sound : (σ : Setting) (Γ : List Variable) (t : Option Ty) (s o r : Span) (op : BinaryOp) (p : Operands) (e : TypedExpr) → BothSound σ Γ p → operated t s o r op p ≡ Ok e → Sound σ Γ t e
unfolding operated
operated_sound σ Γ t s o r op p e b h = operation_sound σ Γ (operation_ty op (ty_of p.left)) t s o r op p e refl b h

-- ---- casts

cast_sound : (σ : Setting) (Γ : List Variable) (u v : Ty) (t : Option Ty) (s o r : Span) (a e : TypedExpr) → IsWellTyped (surroundings σ) (types Γ) a → ty_of a ≡ u → cast_from u v t s o r a ≡ Ok e → Sound σ Γ t e
cast_sound σ Γ (int j) (int k) t s o r a e w q p =
    let c = held (widens j k) (fit t s (tree.cast (int k) s a)) (mismatch s) e p in
    fit_sound σ Γ t s (tree.cast (int k) s a) e (j, k, c.0, refl, q, w) tt c.1
cast_sound σ Γ (int j) _ t s o r a e w q p = absurd (cc)
cast_sound σ Γ _ v t s o r a e w q p = absurd (cc)

widened_sound : (σ : Setting) (Γ : List Variable) (t : Option Ty) (s o r : Span) (p : TypedExpr × Ty) (e : TypedExpr) → IsWellTyped (surroundings σ) (types Γ) p.0 → widened t s o r p ≡ Ok e → Sound σ Γ t e
unfolding widened
widened_sound σ Γ t s o r p e w q = cast_sound σ Γ (ty_of p.0) p.1 t s o r p.0 e w refl q

-- the operand is what it is at some type that may be asked
operand_typed : (ds : List AdtDecl) (bare : Bool) (operand : Option Ty → Typed) (w : TypeTree) (p : TypedExpr × Ty) → cast_parts bare operand (written_type ds w) ≡ Ok p → (t : Option Ty) × MayAsk t × (operand t ≡ Ok p.0)
operand_typed ds true operand w p q =
    let u = bound (written_type ds w) _ p q in
    let a = bound (operand (Some u.0)) _ p u.2 in
    (Some u.0, type_built ds w u.0 u.1, a.1 ∙ ap (λ x. Ok x.0) (same_ok (a.0, u.0) p a.2))
operand_typed ds false operand w p q =
    let a = bound (operand None) _ p q in
    let u = bound (written_type ds w) _ p a.2 in
    (None, tt, a.1 ∙ ap (λ x. Ok x.0) (same_ok (a.0, u.0) p u.2))

-- ---- assignments

-- an assignment that is accepted fits as any other expression
pub written_fits : (Γ : List Variable) (t : Option Ty) (s l : Span) (a e r : TypedExpr) → writing Γ t s l a e ≡ Ok r → fit t s e ≡ Ok r
written_fits Γ t s l a e r p =
    let c = bound (fit t s e) (if_mutable (may_write Γ a) l) r p in
    c.1 ∙ (held (may_write Γ a) (Ok c.0) (not_mutable l) r c.2).1

assigned_sound : (σ : Setting) (Γ : List Variable) (t : Option Ty) (s l : Span) (a e r : TypedExpr) → IsWellTyped (surroundings σ) (types Γ) a → IsWellTyped (surroundings σ) (types Γ) e → ty_of e ≡ ty_of a → assigned Γ t s l a e ≡ Ok r → Sound σ Γ t r
unfolding assigned
assigned_sound σ Γ t s l a e r h w q p = fit_sound σ Γ t s (tree.assign unit s a e) r (refl, q, h, w) tt (written_fits Γ t s l a (tree.assign unit s a e) r p)

arithmetic_ty : (op : BinaryOp) (u : Ty) → is_updated op u ≡ true → operation_ty op u ≡ Some u
arithmetic_ty op (int k) p = let q : is_arithmetic op ≡ true = p in rw q refl
arithmetic_ty op u p = absurd (cc)

updated_sound : (σ : Setting) (Γ : List Variable) (t : Option Ty) (s o l : Span) (op : BinaryOp) (a e r : TypedExpr) → IsWellTyped (surroundings σ) (types Γ) a → IsWellTyped (surroundings σ) (types Γ) e → ty_of e ≡ ty_of a → updated Γ t s o l op a e ≡ Ok r → Sound σ Γ t r
unfolding updated
updated_sound σ Γ t s o l op a e r h w q p =
    let c = held (is_updated op (ty_of a)) (writing Γ t s l a (tree.update unit o op a e)) (mismatch l) r p in
    let g : operation_ty op (ty_of e) ≡ Some (ty_of e) = subst (λ z. operation_ty op z ≡ Some z) (sym q) (arithmetic_ty op (ty_of a) c.0) in
    fit_sound σ Γ t s (tree.update unit o op a e) r (refl, q, g, h, w) tt (written_fits Γ t s l a (tree.update unit o op a e) r c.1)

-- ---- calls

abbrev pub AllSound : Setting → List Variable → TypedExprs → List Ty → Type 0
AllSound σ Γ es ts = how_many es ≡ length ts → ArgumentsFit (surroundings σ) (types Γ) es ts

same_number : (m n : ℕ) → (m == n) ≡ true → m ≡ n
same_number m n p = same_test m n p

no_args : (σ : Setting) (Γ : List Variable) (ts : List Ty) → AllSound σ Γ tree.none ts
no_args σ Γ [] = λ h. tt
no_args σ Γ (t ∷ ts) = λ h. absurd (omega arith)

more_args : (σ : Setting) (Γ : List Variable) (ts : List Ty) (e : TypedExpr) (es : TypedExprs) → Sound σ Γ (first_of ts) e → AllSound σ Γ es (rest_of ts) → AllSound σ Γ (tree.more e es) ts
more_args σ Γ [] e es a b = λ h. absurd (omega arith)
more_args σ Γ (t ∷ ts) e es a b = λ h. (a.meets, a.well, b (omega arith))

-- ---- tuples

parts_built : (ts : Tys) → PartsAreBuilt ts → AllBuilt (listed ts)
parts_built no_tys h = tt
parts_built (and_ty t ts) h = (h.0, parts_built ts h.1)

-- what is expected of the parts is built
expected_built : (t : Option Ty) → MayAsk t → AllBuilt (parts_of t)
expected_built None h = tt
expected_built (Some (tuple ts)) h = parts_built ts h
expected_built (Some u) h = tt

-- each part fits, and is of a built type
abbrev pub PartsSound : Setting → List Variable → TypedExprs → Type 0
PartsSound σ Γ es = PartsFit (surroundings σ) (types Γ) es × PartsAreBuilt (tys_of_exprs es)

tupled_sound : (σ : Setting) (Γ : List Variable) (t : Option Ty) (s : Span) (es : TypedExprs) (r : TypedExpr) → PartsSound σ Γ es → tupled t s es ≡ Ok r → Sound σ Γ t r
unfolding tupled
tupled_sound σ Γ t s es r h p = fit_sound σ Γ t s (tree.make (tuple (tys_of_exprs es)) s Tuple es) r (refl, h.0) h.1 p

-- neither is an answer
pub no_part : (b : Bool) (e f : SourceError) (r : TypedExpr) → (if b then Err e else Err f) ≡ Ok r → ⊥
no_part true e f r q = cc
no_part false e f r q = cc

part_sound : (σ : Setting) (Γ : List Variable) (t : Option Ty) (s o : Span) (a : TypedExpr) (p : Option (ℕ × Ty)) (r : TypedExpr) → IsWellTyped (surroundings σ) (types Γ) a → ((q : ℕ × Ty) → p ≡ Some q → part_ty σ.types (ty_of a) q.0 ≡ Some q.1)
    → part_by σ.types t s o a p ≡ Ok r → Sound σ Γ t r
part_sound σ Γ t s o a None r w h q = absurd (no_part (is_boxed (ty_of a)) (unbuilt s) (unknown_name o) r q)
part_sound σ Γ t s o a (Some p) r w h q =
    let c = held (is_built σ.types p.1) (fit t s (tree.part p.1 s a p.0)) (unbuilt s) r q in
    fit_sound σ Γ t s (tree.part p.1 s a p.0) r (h p refl, w) (built_is_built σ.types p.1 c.0) c.1

parted_sound : (σ : Setting) (Γ : List Variable) (t : Option Ty) (s : Span) (k : Number) (a r : TypedExpr) → IsWellTyped (surroundings σ) (types Γ) a → parted σ.types t s k a ≡ Ok r → Sound σ Γ t r
unfolding parted
parted_sound σ Γ t s k a r w p = part_sound σ Γ t s k.span a (part_if σ.types (ty_of a) (part_number k)) r w (λ q h. number_has_type σ.types (ty_of a) (part_number k) q h) p

selected_sound : (σ : Setting) (Γ : List Variable) (t : Option Ty) (s : Span) (x : Segment) (a r : TypedExpr) → IsWellTyped (surroundings σ) (types Γ) a → selected σ.types t s x a ≡ Ok r → Sound σ Γ t r
unfolding selected
selected_sound σ Γ t s x a r w p = part_sound σ Γ t s x.span a (field_of σ.types x.name (ty_of a)) r w (λ q h. field_has_type σ.types x.name (ty_of a) q h) p

-- ---- struct literals

-- the next field has the type
pub record IsNext (m : Maker) (left : List FieldDecl) (u : Ty) : Type 0 where
  pub field : FieldDecl
  pub is : left ≡ field ∷ fields_behind left
  pub type : u ≡ field_at m.arguments field
  pub built : IsBuilt u

next_sound : (ds : List AdtDecl) (m : Maker) (left : List FieldDecl) (x : Segment) (u : Ty) → next_field ds m left x ≡ Ok u → IsNext m left u
next_sound ds m [] x u p = absurd (cc)
next_sound ds m (f ∷ fs) x u p =
    let c = held (f.name.0 == x.name.0) (built_field ds x (field_at m.arguments f)) (not_next m.fields (f ∷ fs) x) u p in
    let b = held (is_built ds (field_at m.arguments f)) (Ok (field_at m.arguments f)) (unbuilt x.span) u c.1 in
    let e : field_at m.arguments f ≡ u = same_ok _ _ b.1 in
    record { field = f; is = refl; type = sym e; built = subst IsBuilt e (built_is_built ds (field_at m.arguments f) b.0) }

-- the parts fit, and have the types of the fields
pub record FieldsSound (σ : Setting) (Γ : List Variable) (m : Maker) (left : List FieldDecl) (es : TypedExprs) : Type 0 where
  pub fit : PartsFit (surroundings σ) (types Γ) es
  pub types_are : tys_of_exprs es ≡ instances m.arguments (tys_of (map field_ty left))

none_left : (σ : Setting) (Γ : List Variable) (s : Span) (m : Maker) (left : List FieldDecl) (r : TypedExprs) → no_field_left s left ≡ Ok r → FieldsSound σ Γ m left r
none_left σ Γ s m [] r p = subst (FieldsSound σ Γ m []) (same_ok _ _ p) (record { fit = tt; types_are = refl })
none_left σ Γ s m (f ∷ fs) r p = absurd (cc)

one_field : (σ : Setting) (Γ : List Variable) (m : Maker) (left : List FieldDecl) (u : Ty) (a : TypedExpr) (es : TypedExprs) → IsNext m left u → IsWellTyped (surroundings σ) (types Γ) a → ty_of a ≡ u → FieldsSound σ Γ m (fields_behind left) es
    → FieldsSound σ Γ m left (tree.more a es)
one_field σ Γ m left u a es n w q rest = record {
  fit = (w, rest.fit);
  types_are = ap₂ and_ty (q ∙ n.type) rest.types_are ∙ ap (λ fs. instances m.arguments (tys_of (map field_ty fs))) (sym n.is);
}

literal_sound_of : (σ : Setting) (Γ : List Variable) (t : Option Ty) (s : Span) (m : Maker) (es : TypedExprs) (r : TypedExpr) → IsMaker σ m → FieldsSound σ Γ m m.fields es → literal_made t s m es ≡ Ok r → Sound σ Γ t r
unfolding literal_made
literal_sound_of σ Γ t s m es r h k p =
    fit_sound σ Γ t s (tree.make (adt m.number [] m.arguments) s (Variant m.number m.variant) es) r
    (record { arguments = m.arguments; fields = tys_of (map field_ty m.fields); is = refl; declares = h.declares; parts = k.types_are }, k.fit) h.built p

-- ---- names

alone_sound : (σ : Setting) (Γ : List Variable) (t : Option Ty) (s : Span) (m : Maker) (r : TypedExpr) → IsMaker σ m → made_alone t s m ≡ Ok r → Sound σ Γ t r
alone_sound σ Γ t s m r h p =
    let es = bound (no_field_left s m.fields) (literal_made t s m) r p in
    literal_sound_of σ Γ t s m es.0 r h (none_left σ Γ s m m.fields es.0 es.1) es.2

local_type : (Γ : List Variable) (x : Option Segment) (w : Found) → local_of Γ x ≡ Some w → slice_get (types Γ) w.place ≡ Some w.ty
local_type Γ None w p = absurd (cc)
local_type Γ (Some x) w p = found_type Γ x.name w p

named_at : (σ : Setting) (Γ : List Variable) (t : Option Ty) (s : Span) (w : PathNode) (o : Option Found) (r : TypedExpr) → AllBuilt (types Γ) → ((v : Found) → o ≡ Some v → slice_get (types Γ) v.place ≡ Some v.ty) → named_by σ.types t s w o ≡ Ok r → Sound σ Γ t r
named_at σ Γ t s w (Some v) r b h p = fit_sound σ Γ t s (tree.variable v.ty s v.place) r (h v refl) (built_at (types Γ) v.place v.ty b (h v refl)) p
named_at σ Γ t s w None r b h p =
    let m = bound (maker_of σ.types Alone t s w) (made_alone t s) r p in
    alone_sound σ Γ t s m.0 r (maker_sound σ Alone t s w m.0 m.1) m.2

named_sound : (σ : Setting) (Γ : List Variable) (t : Option Ty) (s : Span) (w : PathNode) (r : TypedExpr) → AllBuilt (types Γ) → named σ.types Γ t s w ≡ Ok r → Sound σ Γ t r
unfolding named
named_sound σ Γ t s w r b p = named_at σ Γ t s w (local_of Γ (name_alone w)) r b (local_type Γ (name_alone w)) p

-- ---- what is called

-- a function of its signature, or what makes a value of parts of built types
abbrev pub IsCalled : Setting → Called → Type 0
IsCalled σ (of_function f) = slice_get (signatures_at σ.headings) f.place ≡ Some f.signature
IsCalled σ (of_maker m) = IsMaker σ m × AllBuilt (field_tys m)

listed_built : (ds : List AdtDecl) (ts : List Ty) → are_built ds (tys_of ts) ≡ true → AllBuilt ts
listed_built ds [] p = tt
listed_built ds (t ∷ ts) p = let b = both (is_built ds t) (are_built ds (tys_of ts)) p in (built_is_built ds t b.0, listed_built ds ts b.1)

maker_is_called : (σ : Setting) (k : Option Ty) (s : Span) (w : PathNode) (c : Called) → constructor_called σ.types k s w ≡ Ok c → IsCalled σ c
maker_is_called σ t s w c p =
    let m = bound (maker_of σ.types Numbered t s w) (maker_called σ.types s) c p in
    let b = held (are_built σ.types (tys_of (field_tys m.0))) (Ok (of_maker m.0)) (unbuilt s) c m.2 in
    subst (IsCalled σ) (same_ok (of_maker m.0) c b.1) (maker_sound σ Numbered t s w m.0 m.1, listed_built σ.types (field_tys m.0) b.0)

either_is_called : (σ : Setting) (t : Option Ty) (s : Span) (w : PathNode) (x : Name) (o : Option Callee) (c : Called) → function_from 0 x σ.headings ≡ o → or_constructor σ.types t s w o ≡ Ok c → IsCalled σ c
either_is_called σ t s w x (Some f) c h p = subst (IsCalled σ) (same_ok (of_function f) c p) (callee_signature σ.headings x f h)
either_is_called σ t s w x None c h p = maker_is_called σ t s w c p

outside_is_called : (σ : Setting) (s : Span) (o : Option Found) (q : Result Called SourceError) (c : Called) → (q ≡ Ok c → IsCalled σ c) → unless_local s o q ≡ Ok c → IsCalled σ c
outside_is_called σ s None q c h p = h p
outside_is_called σ s (Some v) q c h p = absurd (cc)

path_is_called : (σ : Setting) (Γ : List Variable) (t : Option Ty) (s : Span) (w : PathNode) (x : Option Segment) (c : Called) → called_by σ Γ t s w x ≡ Ok c → IsCalled σ c
path_is_called σ Γ t s w None c p = maker_is_called σ t s w c p
path_is_called σ Γ t s w (Some x) c p =
    outside_is_called σ x.span (found x.name Γ) (or_constructor σ.types t s w (function_from 0 x.name σ.headings)) c (either_is_called σ t s w x.name (function_from 0 x.name σ.headings) c refl) p

is_called : (σ : Setting) (Γ : List Variable) (t : Option Ty) (s : Span) (f : Expr) (c : Called) → callee_of σ Γ t s f ≡ Ok c → IsCalled σ c
unfolding callee_of
is_called σ Γ t s (E.path r w) c p = path_is_called σ Γ t s w.node (name_alone w.node) c p
is_called σ Γ t s f c p = absurd (cc)

params_built : (σ : Setting) (Γ : List Variable) (c : Called) → Around σ Γ → IsCalled σ c → AllBuilt (params_of c)
params_built σ Γ (of_function f) ho h = (ho.functions f.place f.signature h).0
params_built σ Γ (of_maker m) ho h = h.1

-- arguments of the types of the fields
fields_fit : (σ : Setting) (Γ : List Variable) (m : Maker) (fs : List FieldDecl) (es : TypedExprs) → ArgumentsFit (surroundings σ) (types Γ) es (map (field_at m.arguments) fs) → FieldsSound σ Γ m fs es
fields_fit σ Γ m [] tree.none h = record { fit = tt; types_are = refl }
fields_fit σ Γ m [] (tree.more e es) h = absurd h
fields_fit σ Γ m (f ∷ fs) tree.none h = absurd h
fields_fit σ Γ m (f ∷ fs) (tree.more e es) h =
    let rest = fields_fit σ Γ m fs es h.2 in
    record { fit = (h.1, rest.fit); types_are = ap₂ and_ty h.0 rest.types_are }

call_sound : (σ : Setting) (Γ : List Variable) (t : Option Ty) (s : Span) (c : Called) (es : TypedExprs) (r : TypedExpr) → Around σ Γ → IsCalled σ c → ArgumentsFit (surroundings σ) (types Γ) es (params_of c) → call_of t s c es ≡ Ok r → Sound σ Γ t r
call_sound σ Γ t s (of_function f) es r ho g h p =
    fit_sound σ Γ t s (tree.call f.signature.answer s f.place es) r (f.signature, g, refl, h) (ho.functions f.place f.signature g).1 p
call_sound σ Γ t s (of_maker m) es r ho g h p = literal_sound_of σ Γ t s m es r g.0 (fields_fit σ Γ m m.fields es h) p

called_sound : (σ : Setting) (Γ : List Variable) (t : Option Ty) (s : Span) (c : Called) (es : TypedExprs) (r : TypedExpr) → Around σ Γ → IsCalled σ c → AllSound σ Γ es (params_of c) → called t s c es ≡ Ok r → Sound σ Γ t r
unfolding called
called_sound σ Γ t s c es r ho g h p =
    let d = held (how_many es == length (params_of c)) (call_of t s c es) (mismatch s) r p in
    call_sound σ Γ t s c es r ho g (h (same_number (how_many es) (length (params_of c)) d.0)) d.1

-- ---- blocks and loops

closed_sound : (σ : Setting) (Γ : List Variable) (t : Option Ty) (s : Span) (ss : TypedStmts) (r : TypedExpr) → StatementsFit (surroundings σ) (types Γ) (block_ty t ss) ss → IsBuilt (block_ty t ss) → closed t s ss ≡ Ok r → Sound σ Γ t r
unfolding closed
closed_sound σ Γ t s ss r h b p = fit_sound σ Γ t s (tree.block (block_ty t ss) s ss) r h b p

length-types : (Γ : List Variable) → length (types Γ) ≡ length Γ
length-types [] = refl
length-types (v ∷ Γ) = ap suc (length-types Γ)

speaks_there : (Γ : List Variable) (a : Assertion) → SpeaksOf (length Γ) a → SpeaksOf (length (types Γ)) a
speaks_there Γ a h = subst (λ n. SpeaksOf n a) (sym (length-types Γ)) h

abbrev SomeSpeaks : ℕ → Option Assertion → Type 0
SomeSpeaks n None = Unit {0}
SomeSpeaks n (Some a) = SpeaksOf n a

same_some : (o p : Option Assertion) → yes o ≡ Ok p → o ≡ p
same_some o p q = same_ok _ _ q

invariant_speaks : (ds : List AdtDecl) (Γ : List Variable) (s : Span) (n : AttributeNode) (o : Option Assertion) → invariant_by ds Γ s n ≡ Ok o → SomeSpeaks (length (types Γ)) o
invariant_speaks ds Γ s (A.Clause Invariant t) o p = subst (SomeSpeaks (length (types Γ))) (same_some (Some (assertion ds None Γ t)) o p) (speaks_there Γ (assertion ds None Γ t) (assertion_speaks ds Γ t))
invariant_speaks ds Γ s A.Skipped o p = subst (SomeSpeaks (length (types Γ))) (same_some None o p) tt
invariant_speaks ds Γ s n o p = absurd (cc)

attribute_speaks : (ds : List AdtDecl) (Γ : List Variable) (a : Attribute) (o : Option Assertion) → invariant_of ds Γ a ≡ Ok o → SomeSpeaks (length (types Γ)) o
unfolding invariant_of
attribute_speaks ds Γ a o p = invariant_speaks ds Γ a.span a.node o p

joined_speak : (n : ℕ) (o : Option Assertion) (rest : List Assertion) → SomeSpeaks n o → EachSpeaks n rest → EachSpeaks n (with_some o rest)
joined_speak n None rest h k = k
joined_speak n (Some a) rest h k = (h, k)

invariants_speak : (ds : List AdtDecl) (Γ : List Variable) (as' : List Attribute) (is : List Assertion) → gather (invariant_of ds Γ) as' ≡ Ok is → EachSpeaks (length (types Γ)) is
invariants_speak ds Γ [] is p = subst (EachSpeaks (length (types Γ))) (same_ok _ _ p) tt
invariants_speak ds Γ (a ∷ as') is p =
    let o = bound (invariant_of ds Γ a) _ is p in
    let rest = bound (gather (invariant_of ds Γ) as') _ is o.2 in
    subst (EachSpeaks (length (types Γ))) (same_ok _ _ rest.2)
    (joined_speak (length (types Γ)) o.0 rest.0 (attribute_speaks ds Γ a o.0 o.1) (invariants_speak ds Γ as' rest.0 rest.1))

-- ---- what leaves

panicked_sound : (σ : Setting) (Γ : List Variable) (t : Option Ty) (s : Span) (m : PanicMacro) (r : TypedExpr) → MayAsk t → panicked t s m ≡ Ok r → Sound σ Γ t r
panicked_sound σ Γ None s m r h p = subst (Sound σ Γ None) (same_ok (tree.panics unit s (cause_of m)) r p) (record { well = tt; meets = tt; built = tt })
panicked_sound σ Γ (Some u) s m r h p = subst (Sound σ Γ (Some u)) (same_ok (tree.panics u s (cause_of m)) r p) (record { well = h; meets = refl; built = h })

returned_sound : (σ : Setting) (Γ : List Variable) (t : Option Ty) (s : Span) (a r : TypedExpr) → MayAsk t → ty_of a ≡ σ.answer → IsWellTyped (surroundings σ) (types Γ) a → yes (returned t s a) ≡ Ok r → Sound σ Γ t r
returned_sound σ Γ None s a r h q w p = subst (Sound σ Γ None) (same_ok (tree.returned unit s a) r p) (record { well = (tt, q, w); meets = tt; built = tt })
returned_sound σ Γ (Some u) s a r h q w p = subst (Sound σ Γ (Some u)) (same_ok (tree.returned u s a) r p) (record { well = (h, q, w); meets = refl; built = h })

bare_return_sound : (σ : Setting) (Γ : List Variable) (t : Option Ty) (s : Span) (r : TypedExpr) → MayAsk t → bare_return σ.answer t s ≡ Ok r → Sound σ Γ t r
bare_return_sound σ Γ t s r h p =
    let c = held (same_ty unit σ.answer) (Ok (returned t s (nothing s))) (mismatch s) r p in
    returned_sound σ Γ t s (nothing s) r h (equal_types unit σ.answer c.0) refl c.1

-- a loop that no `break` leaves
unleft_sound : (σ : Setting) (Γ : List Variable) (t : Option Ty) (s : Span) (is : List Assertion) (b r : TypedExpr) → MayAsk t → breaks b ≡ false → EachSpeaks (length (types Γ)) is → ty_of b ≡ unit
    → IsWellTyped (surroundings (looping σ)) (types Γ) b → yes (tree.endless (asked t) s is b) ≡ Ok r → Sound σ Γ t r
unleft_sound σ Γ None s is b r h k f q w p = subst (Sound σ Γ None) (same_ok (tree.endless unit s is b) r p) (record { well = (tt, k, f, q, w); meets = tt; built = tt })
unleft_sound σ Γ (Some u) s is b r h k f q w p = subst (Sound σ Γ (Some u)) (same_ok (tree.endless u s is b) r p) (record { well = (h, k, f, q, w); meets = refl; built = h })

either_sound : (σ : Setting) (Γ : List Variable) (t : Option Ty) (s : Span) (is : List Assertion) (b r : TypedExpr) (k : Bool) → breaks b ≡ k → MayAsk t → EachSpeaks (length (types Γ)) is → ty_of b ≡ unit
    → IsWellTyped (surroundings (looping σ)) (types Γ) b → (if k then fit t s (tree.until_break unit s is b) else yes (tree.endless (asked t) s is b)) ≡ Ok r → Sound σ Γ t r
either_sound σ Γ t s is b r true k h f q w p = fit_sound σ Γ t s (tree.until_break unit s is b) r (refl, k, f, q, w) tt p
either_sound σ Γ t s is b r false k h f q w p = unleft_sound σ Γ t s is b r h k f q w p

endless_sound : (σ : Setting) (Γ : List Variable) (t : Option Ty) (s : Span) (is : List Assertion) (b r : TypedExpr) → MayAsk t → EachSpeaks (length (types Γ)) is → ty_of b ≡ unit → IsWellTyped (surroundings (looping σ)) (types Γ) b
    → endless t s is b ≡ Ok r → Sound σ Γ t r
unfolding endless
endless_sound σ Γ t s is b r h f q w p = either_sound σ Γ t s is b r (breaks b) refl h f q w p

-- ---- `break` and `continue`

break_sound : (σ : Setting) (Γ : List Variable) (t : Option Ty) (s : Span) (r : TypedExpr) → MayAsk t → in_a_loop σ.in_loop s (tree.break_off (asked t) s) ≡ Ok r → Sound σ Γ t r
break_sound σ Γ None s r h p = let c = held σ.in_loop (Ok (tree.break_off unit s)) (mismatch s) r p in subst (Sound σ Γ None) (same_ok _ _ c.1) (record { well = (tt, c.0); meets = tt; built = tt })
break_sound σ Γ (Some u) s r h p = let c = held σ.in_loop (Ok (tree.break_off u s)) (mismatch s) r p in subst (Sound σ Γ (Some u)) (same_ok _ _ c.1) (record { well = (h, c.0); meets = refl; built = h })

continue_sound : (σ : Setting) (Γ : List Variable) (t : Option Ty) (s : Span) (r : TypedExpr) → MayAsk t → in_a_loop σ.in_loop s (tree.go_on (asked t) s) ≡ Ok r → Sound σ Γ t r
continue_sound σ Γ None s r h p = let c = held σ.in_loop (Ok (tree.go_on unit s)) (mismatch s) r p in subst (Sound σ Γ None) (same_ok _ _ c.1) (record { well = (tt, c.0); meets = tt; built = tt })
continue_sound σ Γ (Some u) s r h p = let c = held σ.in_loop (Ok (tree.go_on u s)) (mismatch s) r p in subst (Sound σ Γ (Some u)) (same_ok _ _ c.1) (record { well = (h, c.0); meets = refl; built = h })

-- the first side of a choice leaves, or gives the second its type
sides_fit : (t : Option Ty) (y z : TypedExpr) (b : Bool) → leaves y ≡ b → IsBuilt (ty_of z) → Meets (if b then t else Some (ty_of y)) z
    → let u = if b then ty_of z else ty_of y in IsOfOrLeaves u y × IsOfOrLeaves u z
sides_fit t y z true q k h = (inr (q, k), inl refl)
sides_fit t y z false q k h = (inl refl, inl h)

one_built : (b : Bool) (t u : Ty) → IsBuilt t → IsBuilt u → IsBuilt (if b then t else u)
one_built true t u h k = h
one_built false t u h k = k

-- ---- expressions

-- what typing gives at each expected type is sound
abbrev pub EachSound : Setting → List Variable → (Option Ty → Typed) → Type 0
EachSound σ Γ f = (t : Option Ty) (r : TypedExpr) → MayAsk t → f t ≡ Ok r → Sound σ Γ t r

both_sound : (σ : Setting) (Γ : List Variable) (a b : TypedExpr) (p : Operands) → IsWellTyped (surroundings σ) (types Γ) a → IsWellTyped (surroundings σ) (types Γ) b → ty_of b ≡ ty_of a → yes (operands_of a b) ≡ Ok p → BothSound σ Γ p
both_sound σ Γ a b p wa wb q h = subst (BothSound σ Γ) (same_ok _ _ h) (record { left = wa; right = wb; same = q })

abbrev pub OrderBuilt : Order → Type 0
OrderBuilt (order.Against t) = IsBuilt t
OrderBuilt o = Unit {0}

without_built : (p q : Bool) → OrderBuilt (order_without p q)
without_built true true = tt
without_built true false = tt
without_built false q = tt

order_built : (b : Bool) (t : Option Ty) (p q : Bool) → MayAsk t → OrderBuilt (order_of b t p q)
order_built true (Some t) p q h = h
order_built true None p q h = without_built p q
order_built false t p q h = without_built p q

operands_sound : (σ : Setting) (Γ : List Variable) (o : Order) (f g : Option Ty → Typed) (p : Operands) → OrderBuilt o → EachSound σ Γ f → EachSound σ Γ g → operands o f g ≡ Ok p → BothSound σ Γ p
operands_sound σ Γ (order.Against t) f g p k hf hg h =
    let a = bound (f (Some t)) _ p h in
    let b = bound (g (Some t)) _ p a.2 in
    let sa = hf (Some t) a.0 k a.1 in
    let sb = hg (Some t) b.0 k b.1 in
    both_sound σ Γ a.0 b.0 p sa.well sb.well (sb.meets ∙ sym sa.meets) b.2
operands_sound σ Γ order.SecondGives f g p k hf hg h =
    let b = bound (g None) _ p h in
    let a = bound (f (Some (ty_of b.0))) _ p b.2 in
    let sb = hg None b.0 tt b.1 in
    let sa = hf (Some (ty_of b.0)) a.0 sb.built a.1 in
    both_sound σ Γ a.0 b.0 p sa.well sb.well (sym sa.meets) a.2
operands_sound σ Γ order.FirstGives f g p k hf hg h =
    let a = bound (f None) _ p h in
    let b = bound (g (Some (ty_of a.0))) _ p a.2 in
    let sa = hf None a.0 tt a.1 in
    let sb = hg (Some (ty_of a.0)) b.0 sa.built b.1 in
    both_sound σ Γ a.0 b.0 p sa.well sb.well sb.meets b.2

-- what stands behind statements fits in the scope behind them, and all together in that before them
abbrev pub OpenedSound : Setting → List Variable → Opened → Type 0
OpenedSound σ Γ o = (u : Ty) (end : TypedStmts) → StatementsFit (surroundings σ) (types o.scope) u end → StatementsFit (surroundings σ) (types Γ) u (stmts_of o.stmts end)

nothing_opened : (σ : Setting) (Γ : List Variable) → OpenedSound σ Γ (opened Γ [])
nothing_opened σ Γ u end h = h

declared_sound : (σ : Setting) (Γ : List Variable) (d : Option Declared) (t : Option Ty) (a : TypedExpr) (o : Opened) → IsWellTyped (surroundings σ) (types Γ) a → OpenedSound σ (declared Γ d a) o → OpenedSound σ Γ (behind (typed_stmt (record { declares = d; expected = t }) a) o)
declared_sound σ Γ None t a o w h = λ u end k. (w, h u end k)
declared_sound σ Γ (Some d) t a o w h = λ u end k.
    (w, subst (λ ts. StatementsFit (surroundings σ) ts u (stmts_of o.stmts end)) (types-append Γ (record { name = d.name; ty = ty_of a; mutable = d.mutable })) (h u end k))

-- the same statement before others
before_fits : (σ : Surroundings) (Γ : List Ty) (t : Option Ty) (b : Bool) (e : TypedExpr) (rest other : TypedStmts) → ((Δ : List Ty) → StatementsFit σ Δ unit rest → StatementsFit σ Δ (block_ty t other) other)
    → StatementsFit σ Γ unit (stmt_of b e rest) → StatementsFit σ Γ (block_ty t (stmt_of b e other)) (stmt_of b e other)
before_fits σ Γ t true e rest other f h = (h.0, f (Γ ++ ty_of e ∷ []) h.1)
before_fits σ Γ t false e rest other f h = (h.0, f Γ h.1)

value_fits : (σ : Surroundings) (Γ : List Ty) (b : Bool) (e : TypedExpr) → StatementsFit σ Γ unit (stmt_of b e tree.done) → IsWellTyped σ Γ e
value_fits σ Γ true e h = h.0
value_fits σ Γ false e h = h.0

end_fits : (σ : Surroundings) (Γ : List Ty) (t : Option Ty) (s : TypedStmt) (b : Bool) → MayAsk t → leaves s.value ≡ b → StatementsFit σ Γ unit (stmt_of s.binds s.value tree.done)
    → let end = if b then tree.leaving s.value else stmt_of s.binds s.value tree.done in StatementsFit σ Γ (block_ty t end) end
end_fits σ Γ t s true k q h = (asked_built t k, q, value_fits σ Γ s.binds s.value h)
end_fits σ Γ t s false k q h = before_fits σ Γ t s.binds s.value tree.done tree.done (λ Δ k. k) h

-- statements with no last expression fit with the last of them apart, where it leaves
without_last_fits : (σ : Surroundings) (Γ : List Ty) (t : Option Ty) (ss : List TypedStmt) → MayAsk t → StatementsFit σ Γ unit (stmts_of ss tree.done) → StatementsFit σ Γ (block_ty t (without_last ss)) (without_last ss)
without_last_fits σ Γ t [] k h = h
without_last_fits σ Γ t (s ∷ []) k h = end_fits σ Γ t s (leaves s.value) k refl h
without_last_fits σ Γ t (s ∷ r ∷ ss) k h = before_fits σ Γ t s.binds s.value (stmts_of (r ∷ ss) tree.done) (without_last (r ∷ ss)) (λ Δ g. without_last_fits σ Δ t (r ∷ ss) k g) h

end_built : (t : Option Ty) (s : TypedStmt) (b : Bool) → MayAsk t → IsBuilt (block_ty t (if b then tree.leaving s.value else stmt_of s.binds s.value tree.done))
end_built t s true k = asked_built t k
end_built t s false k = subst IsBuilt (sym (stmt_ty t s.binds s.value tree.done)) tt

without_last_built : (t : Option Ty) (ss : List TypedStmt) → MayAsk t → IsBuilt (block_ty t (without_last ss))
without_last_built t [] k = tt
without_last_built t (s ∷ []) k = end_built t s (leaves s.value) k
without_last_built t (s ∷ r ∷ ss) k = subst IsBuilt (sym (stmt_ty t s.binds s.value (without_last (r ∷ ss)))) (without_last_built t (r ∷ ss) k)

-- a block of these statements, with what stands behind them
block_sound : (σ : Setting) (Γ : List Variable) (t : Option Ty) (s : Span) (o : Opened) (end : TypedStmts) (r : TypedExpr) → OpenedSound σ Γ o → StatementsFit (surroundings σ) (types o.scope) (block_ty t end) end → IsBuilt (block_ty t end) → closed t s (stmts_of o.stmts end) ≡ Ok r → Sound σ Γ t r
block_sound σ Γ t s o end r h k b p =
    closed_sound σ Γ t s (stmts_of o.stmts end) r
    (subst (λ u. StatementsFit (surroundings σ) (types Γ) u (stmts_of o.stmts end)) (sym (block_ty_after t o.stmts end)) (h (block_ty t end) end k)) (subst IsBuilt (sym (block_ty_after t o.stmts end)) b) p

-- ---- types of scopes

declared_built : (σ : Setting) (Γ : List Variable) (d : Option Declared) (a : TypedExpr) → Around σ Γ → IsBuilt (ty_of a) → Around σ (declared Γ d a)
declared_built σ Γ None a h k = h
declared_built σ Γ (Some d) a h k = record {
  functions = h.functions;
  variables = subst AllBuilt (sym (types-append Γ (record { name = d.name; ty = ty_of a; mutable = d.mutable }))) (all_built_append (types Γ) (ty_of a) h.variables k);
  answer = h.answer;
}

-- the types are the same in a loop and in none
within_built : (b : Bool) (σ : Setting) (Γ : List Variable) → Around σ Γ → Around (within_loop b σ) Γ
within_built b σ Γ h = record { functions = h.functions; variables = h.variables; answer = h.answer }

written_may : (ds : List AdtDecl) (w : Option TypeTree) (t : Option Ty) → written_or_none ds w ≡ Ok t → MayAsk t
written_may ds None t p = subst MayAsk (same_ok _ _ p) tt
written_may ds (Some w) t p =
    let u = bound (written_type ds w) _ t p in
    subst MayAsk (same_ok (Some u.0) t u.2) (type_built ds w u.0 u.1)

step_may : (ds : List AdtDecl) (k : StmtKind) (w : Step) → step_of ds k ≡ Ok w → MayAsk w.expected
unfolding step_of
step_may ds (kind.Let p w) r q =
    let x = bound (declared_by p) _ r q in
    let t = bound (written_or_none ds w) _ r x.2 in
    subst (λ (r : Step). MayAsk r.expected) (same_ok (record { declares = Some x.0; expected = t.0 }) r t.2) (written_may ds w t.0 t.1)
step_may ds kind.Run r q = subst (λ (r : Step). MayAsk r.expected) (same_ok (record { declares = None; expected = None }) r q) tt
step_may ds kind.Blocklike r q = subst (λ (r : Step). MayAsk r.expected) (same_ok (record { declares = None; expected = Some unit }) r q) tt

first_may : (ts : List Ty) → AllBuilt ts → MayAsk (first_of ts)
first_may [] h = tt
first_may (t ∷ ts) h = h.0

rest_built : (ts : List Ty) → AllBuilt ts → AllBuilt (rest_of ts)
rest_built [] h = tt
rest_built (t ∷ ts) h = h.1

mutual
  pub typed_sound : (σ : Setting) (Γ : List Variable) (e : Expr) (t : Option Ty) (r : TypedExpr) → Around σ Γ → MayAsk t → typed σ Γ e t ≡ Ok r → Sound σ Γ t r
  typed_sound σ Γ (E.integer s z k) t r ho ht p = literal_sound σ Γ t s z k r p
  typed_sound σ Γ (E.truth s b) t r ho ht p = fit_sound σ Γ t s (tree.truth bool s b) r refl tt p
  typed_sound σ Γ (E.path s w) t r ho ht p = named_sound σ Γ t s w.node r ho.variables p
  typed_sound σ Γ (E.unary s Neg o e) t r ho ht p =
      let a = bound (typed σ Γ e t) _ r p in
      negated_sound σ Γ t s o (span_of e) a.0 r (typed_sound σ Γ e t a.0 ho ht a.1).well a.2
  typed_sound σ Γ (E.unary s Not o e) t r ho ht p =
      let a = bound (typed σ Γ e (Some bool)) _ r p in
      let sa = typed_sound σ Γ e (Some bool) a.0 ho tt a.1 in
      fit_sound σ Γ t s (tree.denied bool s a.0) r (refl, sa.meets, sa.well) tt a.2
  typed_sound σ Γ (E.cast s e w) t r ho ht p =
      let q = bound (cast_parts (is_bare e) (typed σ Γ e) (written_type σ.types w)) _ r p in
      let a = operand_typed σ.types (is_bare e) (typed σ Γ e) w q.0 q.1 in
      widened_sound σ Γ t s (span_of e) (type_span w) q.0 r (typed_sound σ Γ e a.0 q.0.0 ho a.1 a.2).well q.2
  typed_sound σ Γ (E.binary s op o a b) t r ho ht p =
      let q = bound (operands (order_of (is_arithmetic op) t (is_bare a) (is_bare b)) (typed σ Γ a) (typed σ Γ b)) _ r p in
      operated_sound σ Γ t s o (span_of a) op q.0 r
      (operands_sound σ Γ (order_of (is_arithmetic op) t (is_bare a) (is_bare b)) (typed σ Γ a) (typed σ Γ b) q.0
      (order_built (is_arithmetic op) t (is_bare a) (is_bare b) ht) (λ u v k h. typed_sound σ Γ a u v ho k h) (λ u v k h. typed_sound σ Γ b u v ho k h) q.1)
      q.2
  typed_sound σ Γ (E.lazy s op a b) t r ho ht p =
      let x = bound (typed σ Γ a (Some bool)) _ r p in
      let y = bound (typed σ Γ b (Some bool)) _ r x.2 in
      let sx = typed_sound σ Γ a (Some bool) x.0 ho tt x.1 in
      let sy = typed_sound σ Γ b (Some bool) y.0 ho tt y.1 in
      fit_sound σ Γ t s (tree.lazy bool s op x.0 y.0) r (refl, sx.meets, sy.meets, sx.well, sy.well) tt y.2
  typed_sound σ Γ (E.assign s l e) t r ho ht p =
      let a = bound (typed σ Γ l None) _ r p in
      let b = bound (typed σ Γ e (Some (ty_of a.0))) _ r a.2 in
      let sa = typed_sound σ Γ l None a.0 ho tt a.1 in
      let sb = typed_sound σ Γ e (Some (ty_of a.0)) b.0 ho sa.built b.1 in
      assigned_sound σ Γ t s (span_of l) a.0 b.0 r sa.well sb.well sb.meets b.2
  typed_sound σ Γ (E.update s op o l e) t r ho ht p =
      let a = bound (typed σ Γ l None) _ r p in
      let b = bound (typed σ Γ e (Some (ty_of a.0))) _ r a.2 in
      let sa = typed_sound σ Γ l None a.0 ho tt a.1 in
      let sb = typed_sound σ Γ e (Some (ty_of a.0)) b.0 ho sa.built b.1 in
      updated_sound σ Γ t s o (span_of l) op a.0 b.0 r sa.well sb.well sb.meets b.2
  typed_sound σ Γ (E.call s f es) t r ho ht p =
      let g = bound (callee_of σ Γ t s f) _ r p in
      let as' = bound (typed_args σ Γ es (params_of g.0)) _ r g.2 in
      let is = is_called σ Γ t s f g.0 g.1 in
      called_sound σ Γ t s g.0 as'.0 r ho is (args_sound σ Γ es (params_of g.0) as'.0 ho (params_built σ Γ g.0 ho is) as'.1) as'.2
  typed_sound σ Γ (E.tuple s es) t r ho ht p =
      let as' = bound (typed_args σ Γ es (parts_of t)) _ r p in
      tupled_sound σ Γ t s as'.0 r (parts_sound σ Γ es (parts_of t) as'.0 ho (expected_built t ht) as'.1) as'.2
  typed_sound σ Γ (E.part s e k) t r ho ht p =
      let a = bound (typed σ Γ e None) _ r p in
      let sa = typed_sound σ Γ e None a.0 ho tt a.1 in
      parted_sound σ Γ t s k a.0 r sa.well a.2
  typed_sound σ Γ (E.field s e x []) t r ho ht p =
      let a = bound (typed σ Γ e None) _ r p in
      let sa = typed_sound σ Γ e None a.0 ho tt a.1 in
      selected_sound σ Γ t s x a.0 r sa.well a.2
  typed_sound σ Γ (E.literal s w fs) t r ho ht p =
      let m = bound (maker_of σ.types Named t s w.node) _ r p in
      let as' = bound (typed_fields σ Γ s m.0 m.0.fields fs) _ r m.2 in
      literal_sound_of σ Γ t s m.0 as'.0 r (maker_sound σ Named t s w.node m.0 m.1) (fields_sound σ Γ s m.0 m.0.fields fs as'.0 ho as'.1) as'.2
  typed_sound σ Γ (E.block s ss) t r ho ht p =
      let o = bound (typed_stmts σ Γ ss) _ r p in
      closed_sound σ Γ t s (without_last o.0.stmts) r (without_last_fits (surroundings σ) (types Γ) t o.0.stmts ht ((stmts_sound σ Γ ss o.0 ho o.1).0 unit tree.done refl)) (without_last_built t o.0.stmts ht) o.2
  typed_sound σ Γ (E.block_with s ss e) t r ho ht p =
      let o = bound (typed_stmts σ Γ ss) _ r p in
      let a = bound (typed σ o.0.scope e t) _ r o.2 in
      let so = stmts_sound σ Γ ss o.0 ho o.1 in
      let sa = typed_sound σ o.0.scope e t a.0 so.1 ht a.1 in
      block_sound σ Γ t s o.0 (tree.last a.0) r so.0 (refl, sa.well) sa.built a.2
  typed_sound σ Γ (E.branch s None c a) t r ho ht p =
      let x = bound (typed σ Γ c (Some bool)) _ r p in
      let y = bound (typed σ Γ a (Some unit)) _ r x.2 in
      let sx = typed_sound σ Γ c (Some bool) x.0 ho tt x.1 in
      let sy = typed_sound σ Γ a (Some unit) y.0 ho tt y.1 in
      fit_sound σ Γ t s (tree.branch unit s x.0 y.0) r (refl, sx.meets, sy.meets, sx.well, sy.well) tt y.2
  typed_sound σ Γ (E.choice s None c a b) t r ho ht p =
      let x = bound (typed σ Γ c (Some bool)) _ r p in
      let y = bound (typed σ Γ a t) _ r x.2 in
      let z = bound (typed σ Γ b (given t y.0)) _ r y.2 in
      let sx = typed_sound σ Γ c (Some bool) x.0 ho tt x.1 in
      let sy = typed_sound σ Γ a t y.0 ho ht y.1 in
      let sz = typed_sound σ Γ b (given t y.0) z.0 ho (given_built (leaves y.0) t (ty_of y.0) ht sy.built) z.1 in
      let sides = sides_fit t y.0 z.0 (leaves y.0) refl sz.built sz.meets in
      fit_sound σ Γ t s (tree.choice (choice_ty y.0 z.0) s x.0 y.0 z.0) r (sx.meets, sides.0, sides.1, sx.well, sy.well, sz.well) (one_built (leaves y.0) (ty_of z.0) (ty_of y.0) sz.built sy.built) z.2
  typed_sound σ Γ (E.branch s (Some w) c d) t r ho ht p =
      let a = bound (typed σ Γ c None) _ r p in
      let x = bound (typed_arm σ Γ (ty_of a.0) (Some unit) w d) _ r a.2 in
      let sa = typed_sound σ Γ c None a.0 ho tt a.1 in
      branched_sound σ Γ t s a.0 x.0 r sa.well (arm_sound σ Γ (ty_of a.0) (Some unit) w (λ b. typed σ (in_arm Γ b.1) d (Some unit)) x.0 ho (λ b y hb q. typed_sound σ (in_arm Γ b.1) d (Some unit) y hb tt q) x.1) x.2
  typed_sound σ Γ (E.choice s (Some w) c d e) t r ho ht p =
      let a = bound (typed σ Γ c None) _ r p in
      let x = bound (typed_arm σ Γ (ty_of a.0) t w d) _ r a.2 in
      let z = bound (typed σ Γ e (given t x.0.body)) _ r x.2 in
      let sa = typed_sound σ Γ c None a.0 ho tt a.1 in
      let sx = arm_sound σ Γ (ty_of a.0) t w (λ b. typed σ (in_arm Γ b.1) d t) x.0 ho (λ b y hb q. typed_sound σ (in_arm Γ b.1) d t y hb ht q) x.1 in
      let hz = given_built (leaves x.0.body) t (ty_of x.0.body) ht sx.body.built in
      chosen_sound σ Γ t s a.0 x.0 z.0 r ht sa.well sx (typed_sound σ Γ e (given t x.0.body) z.0 ho hz z.1) z.2
  typed_sound σ Γ (E.matching s e as') t r ho ht p =
      let a = bound (typed σ Γ e None) _ r p in
      let q = bound (typed_arms σ Γ (ty_of a.0) t tree.no_arms as') _ r a.2 in
      let sa = typed_sound σ Γ e None a.0 ho tt a.1 in
      let m = arms_sound σ Γ (ty_of a.0) t tree.no_arms as' q.0 ho ht tt q.1 in
      matched_sound σ Γ t s a.0 q.0 r sa.well m.0 m.1 q.2
  typed_sound σ Γ (E.repeat s None c b) t r ho ht p =
      let x = bound (typed (outside σ) Γ c (Some bool)) _ r p in
      let y = bound (typed (looping σ) Γ b (Some unit)) _ r x.2 in
      let sx = typed_sound (outside σ) Γ c (Some bool) x.0 (within_built false σ Γ ho) tt x.1 in
      let sy = typed_sound (looping σ) Γ b (Some unit) y.0 (within_built true σ Γ ho) tt y.1 in
      fit_sound σ Γ t s (tree.repeat unit s [] x.0 y.0) r (refl, tt, sx.meets, sy.meets, sx.well, sy.well) tt y.2
  typed_sound σ Γ (E.attributed s as' (E.repeat v None c b)) t r ho ht p =
      let is = bound (gather (invariant_of σ.types Γ) as') _ r p in
      let x = bound (typed (outside σ) Γ c (Some bool)) _ r is.2 in
      let y = bound (typed (looping σ) Γ b (Some unit)) _ r x.2 in
      let sx = typed_sound (outside σ) Γ c (Some bool) x.0 (within_built false σ Γ ho) tt x.1 in
      let sy = typed_sound (looping σ) Γ b (Some unit) y.0 (within_built true σ Γ ho) tt y.1 in
      fit_sound σ Γ t s (tree.repeat unit s is.0 x.0 y.0) r (refl, invariants_speak σ.types Γ as' is.0 is.1, sx.meets, sy.meets, sx.well, sy.well) tt y.2
  typed_sound σ Γ (E.repeat s (Some w) c b) t r ho ht p =
      let a = bound (typed (outside σ) Γ c None) _ r p in
      let x = bound (typed_arm (looping σ) Γ (ty_of a.0) (Some unit) w b) _ r a.2 in
      let sa = typed_sound (outside σ) Γ c None a.0 (within_built false σ Γ ho) tt a.1 in
      let sx = arm_sound (looping σ) Γ (ty_of a.0) (Some unit) w (λ g. typed (looping σ) (in_arm Γ g.1) b (Some unit)) x.0 (within_built true σ Γ ho) (λ g y hg q. typed_sound (looping σ) (in_arm Γ g.1) b (Some unit) y hg tt q) x.1 in
      repeated_sound σ Γ t s [] a.0 x.0 r tt sa.well sx x.2
  typed_sound σ Γ (E.attributed s as' (E.repeat v (Some w) c b)) t r ho ht p =
      let is = bound (gather (invariant_of σ.types Γ) as') _ r p in
      let a = bound (typed (outside σ) Γ c None) _ r is.2 in
      let x = bound (typed_arm (looping σ) Γ (ty_of a.0) (Some unit) w b) _ r a.2 in
      let sa = typed_sound (outside σ) Γ c None a.0 (within_built false σ Γ ho) tt a.1 in
      let sx = arm_sound (looping σ) Γ (ty_of a.0) (Some unit) w (λ g. typed (looping σ) (in_arm Γ g.1) b (Some unit)) x.0 (within_built true σ Γ ho) (λ g y hg q. typed_sound (looping σ) (in_arm Γ g.1) b (Some unit) y hg tt q) x.1 in
      repeated_sound σ Γ t s is.0 a.0 x.0 r (invariants_speak σ.types Γ as' is.0 is.1) sa.well sx x.2
  typed_sound σ Γ (E.panic s m text) t r ho ht p = panicked_sound σ Γ t s m r ht p
  typed_sound σ Γ (E.bare_return s) t r ho ht p = bare_return_sound σ Γ t s r ht p
  typed_sound σ Γ (E.return_with s e) t r ho ht p =
      let a = bound (typed σ Γ e (Some σ.answer)) _ r p in
      let sa = typed_sound σ Γ e (Some σ.answer) a.0 ho ho.answer a.1 in
      returned_sound σ Γ t s a.0 r ht sa.meets sa.well a.2
  typed_sound σ Γ (E.endless s b) t r ho ht p =
      let x = bound (typed (looping σ) Γ b (Some unit)) _ r p in
      let sx = typed_sound (looping σ) Γ b (Some unit) x.0 (within_built true σ Γ ho) tt x.1 in
      endless_sound σ Γ t s [] x.0 r ht tt sx.meets sx.well x.2
  typed_sound σ Γ (E.attributed s as' (E.endless v b)) t r ho ht p =
      let is = bound (gather (invariant_of σ.types Γ) as') _ r p in
      let x = bound (typed (looping σ) Γ b (Some unit)) _ r is.2 in
      let sx = typed_sound (looping σ) Γ b (Some unit) x.0 (within_built true σ Γ ho) tt x.1 in
      endless_sound σ Γ t s is.0 x.0 r ht (invariants_speak σ.types Γ as' is.0 is.1) sx.meets sx.well x.2
  typed_sound σ Γ (E.break_off s) t r ho ht p = break_sound σ Γ t s r ht p
  typed_sound σ Γ (E.go_on s) t r ho ht p = continue_sound σ Γ t s r ht p
  typed_sound σ Γ e t r ho ht p = absurd (cc)

  stmts_sound : (σ : Setting) (Γ : List Variable) (ss : E.Stmts) (o : Opened) → Around σ Γ → typed_stmts σ Γ ss ≡ Ok o → OpenedSound σ Γ o × Around σ o.scope
  stmts_sound σ Γ E.no_stmts o ho p = subst (λ o. OpenedSound σ Γ o × Around σ o.scope) (same_ok (opened Γ []) o p) (nothing_opened σ Γ, ho)
  stmts_sound σ Γ (E.with_stmt s k e ss) o ho p =
      let w = bound (step_of σ.types k) _ o p in
      let a = bound (typed σ Γ e w.0.expected) _ o w.2 in
      let c = bound (typed_stmts σ (declared Γ w.0.declares a.0) ss) _ o a.2 in
      let sa = typed_sound σ Γ e w.0.expected a.0 ho (step_may σ.types k w.0 w.1) a.1 in
      let rest = stmts_sound σ (declared Γ w.0.declares a.0) ss c.0 (declared_built σ Γ w.0.declares a.0 ho sa.built) c.1 in
      subst (λ o. OpenedSound σ Γ o × Around σ o.scope) (same_ok (behind (typed_stmt w.0 a.0) c.0) o c.2) (declared_sound σ Γ w.0.declares w.0.expected a.0 c.0 sa.well rest.0, rest.1)

  args_sound : (σ : Setting) (Γ : List Variable) (es : E.Exprs) (ts : List Ty) (r : TypedExprs) → Around σ Γ → AllBuilt ts → typed_args σ Γ es ts ≡ Ok r → AllSound σ Γ r ts
  args_sound σ Γ E.none ts r ho hs p = subst (λ (r : TypedExprs). AllSound σ Γ r ts) (same_ok _ _ p) (no_args σ Γ ts)
  args_sound σ Γ (E.more e es) ts r ho hs p =
      let a = bound (typed σ Γ e (first_of ts)) _ r p in
      let c = bound (typed_args σ Γ es (rest_of ts)) _ r a.2 in
      subst (λ (r : TypedExprs). AllSound σ Γ r ts) (same_ok _ _ c.2)
      (more_args σ Γ ts a.0 c.0 (typed_sound σ Γ e (first_of ts) a.0 ho (first_may ts hs) a.1) (args_sound σ Γ es (rest_of ts) c.0 ho (rest_built ts hs) c.1))

  parts_sound : (σ : Setting) (Γ : List Variable) (es : E.Exprs) (ts : List Ty) (r : TypedExprs) → Around σ Γ → AllBuilt ts → typed_args σ Γ es ts ≡ Ok r → PartsSound σ Γ r
  parts_sound σ Γ E.none ts r ho hs p = subst (PartsSound σ Γ) (same_ok _ _ p) (tt, tt)
  parts_sound σ Γ (E.more e es) ts r ho hs p =
      let a = bound (typed σ Γ e (first_of ts)) _ r p in
      let c = bound (typed_args σ Γ es (rest_of ts)) _ r a.2 in
      let sa = typed_sound σ Γ e (first_of ts) a.0 ho (first_may ts hs) a.1 in
      let rest = parts_sound σ Γ es (rest_of ts) c.0 ho (rest_built ts hs) c.1 in
      subst (PartsSound σ Γ) (same_ok _ _ c.2) ((sa.well, rest.0), (sa.built, rest.1))

  fields_sound : (σ : Setting) (Γ : List Variable) (s : Span) (m : Maker) (left : List FieldDecl) (fs : E.FieldExprs) (r : TypedExprs) → Around σ Γ → typed_fields σ Γ s m left fs ≡ Ok r → FieldsSound σ Γ m left r
  fields_sound σ Γ s m left E.no_fields r ho p = none_left σ Γ s m left r p
  fields_sound σ Γ s m left (E.with_field w x e fs) r ho p =
      let u = bound (next_field σ.types m left x) _ r p in
      let a = bound (typed σ Γ e (Some u.0)) _ r u.2 in
      let c = bound (typed_fields σ Γ s m (fields_behind left) fs) _ r a.2 in
      let n = next_sound σ.types m left x u.0 u.1 in
      let sa = typed_sound σ Γ e (Some u.0) a.0 ho n.built a.1 in
      subst (FieldsSound σ Γ m left) (same_ok _ _ c.2) (one_field σ Γ m left u.0 a.0 c.0 n sa.well sa.meets (fields_sound σ Γ s m (fields_behind left) fs c.0 ho c.1))

  arms_sound : (σ : Setting) (Γ : List Variable) (u : Ty) (t : Option Ty) (made : TypedArms) (as' : E.Arms) (r : TypedArms × Option Ty) → Around σ Γ → MayAsk t → AllMeet σ Γ u t made → typed_arms σ Γ u t made as' ≡ Ok r → AllMeet σ Γ u r.1 r.0 × MayAsk r.1
  arms_sound σ Γ u t made E.no_arms r ho ht hm p = subst (λ r. AllMeet σ Γ u r.1 r.0 × MayAsk r.1) (same_ok (made, t) r p) (hm, ht)
  arms_sound σ Γ u t made (E.with_arm s w e as') r ho ht hm p =
      let x = bound (typed_arm σ Γ u t w e) _ r p in
      let m = arm_sound σ Γ u t w (λ b. typed σ (in_arm Γ b.1) e t) x.0 ho (λ b y hb q. typed_sound σ (in_arm Γ b.1) e t y hb ht q) x.1 in
      arms_sound σ Γ u (given t x.0.body) (and_arm made x.0) as' r ho (given_built (leaves x.0.body) t (ty_of x.0.body) ht m.body.built) (arm_meets σ Γ u t made x.0 hm m) x.2
