-- Which variable each name means and which type each expression has, in the form of bidirectional typing (Pierce and Turner
-- 2000): without an expected type an expression gives one, with one it fits it (Rust Reference, "Operator expressions", "Type cast expressions",
-- "Call expressions", "Tuple expressions", "Tuple indexing expressions", "Field access expressions", "Struct expressions", "Block expressions",
-- "if expressions", "if let expressions", "match expressions", "Predicate loops", "Predicate pattern loops", "Infinite loops", "break expressions", "continue expressions", "return expressions", "Diverging expressions"). What has no row is not built.
use Rattle.std.specs.Prelude.{ℕ, suc, ℤ, ◌==◌, ◌++◌, Bool, true, false, List, [], ◌∷◌, length, map, Option, Some, None, Result, Ok, Err, slice_get, if◌then◌else◌}
use Rattle.text_core.specs.declared.name.Name.{Name}
use Rattle.text_core.specs.declared.refusal.Cause.{Cause}
use Rattle.text_core.specs.declared.refusal.Cause.TheVariants as cause
use Rattle.text_core.specs.declared.refusal.SourceError.{SourceError}
use Rattle.text_core.specs.declared.span.Span.{Span}
use Rattle.source_kinds.specs.declared.kinds.BinaryOp.{BinaryOp}
use Rattle.source_kinds.specs.declared.kinds.IntKind.{IntKind}
use Rattle.source_kinds.specs.declared.kinds.IntKind.TheVariants.{I32}
use Rattle.source_kinds.specs.Range.{fits, widens}
use Rattle.logic_term.specs.declared.declaration.AdtDecl.{AdtDecl}
use Rattle.logic_term.specs.declared.declaration.FieldDecl.{FieldDecl}
use Rattle.logic_term.specs.declared.declaration.VariantKind.TheVariants.{Named, Numbered, Unit as Alone}
use Rattle.logic_term.specs.declared.kinds.Ctor.TheVariants.{Tuple, Variant}
use Rattle.logic_term.specs.Ty.{Ty, Tys, int, bool, tuple, adt, no_tys, and_ty}
use Rattle.logic_term.specs.TyView.{tys_of}
use Rattle.source_trees.specs.declared.path.PathNode.{PathNode}
use Rattle.source_trees.specs.declared.attribute.Attribute.{Attribute}
use Rattle.source_trees.specs.declared.attribute.AttributeNode.{AttributeNode}
use Rattle.source_trees.specs.declared.attribute.AttributeNode.TheVariants as A
use Rattle.source_trees.specs.declared.attribute.ClauseKind.TheVariants.{Invariant}
use Rattle.source_trees.specs.declared.expr.Stmt.{Stmt}
use Rattle.source_trees.specs.declared.operator.PanicMacro.{PanicMacro}
use Rattle.source_trees.specs.declared.operator.PanicMacro.TheVariants.{Panic, Unreachable}
use Rattle.source_trees.specs.declared.operator.UnaryOp.TheVariants.{Neg, Not}
use Rattle.source_trees.specs.declared.path.Number.{Number}
use Rattle.source_trees.specs.declared.path.Segment.{Segment}
use Rattle.source_trees.specs.Expr as E
use Rattle.source_trees.specs.Expr.{Expr}
use Rattle.source_trees.specs.ExprView.{span_of}
use Rattle.source_trees.specs.TypeTreeView.{span_of as type_span}
use Rattle.source_trees.specs.Pat.{Pat as Written}
use Rattle.type_check.specs.declared.assertion.Assertion.{Assertion}
use Rattle.type_check.specs.declared.heading.Callee.{Callee}
use Rattle.type_check.specs.declared.operands.Operands.{Operands}
use Rattle.type_check.specs.declared.operands.Order.{Order}
use Rattle.type_check.specs.declared.operands.Order.TheVariants as order
use Rattle.type_check.specs.declared.scope.Declared.{Declared}
use Rattle.type_check.specs.declared.scope.Found.{Found}
use Rattle.type_check.specs.declared.scope.Variable.{Variable}
use Rattle.type_check.specs.declared.statements.Step.{Step}
use Rattle.type_check.specs.declared.typed.TypedStmt.{TypedStmt}
use Rattle.type_check.specs.Answers.{◌>>=◌, unknown_name, double_name, mismatch, unbuilt, not_mutable, wanted, gather}
use Rattle.type_check.specs.Arms.{TypedArm, arm_from, pattern_at, in_arm, and_arm, or_else_arm}
use Rattle.type_check.specs.Makers.{Maker, maker_of}
use Rattle.type_check.specs.Functions.{function_from}
use Rattle.type_check.specs.Breaks.{breaks}
use Rattle.type_check.specs.Leaves.{leaves}
use Rattle.type_check.specs.Scope.{found}
use Rattle.type_check.specs.Setting.{Setting, looping, outside}
use Rattle.type_check.specs.Terms.{assertion}
use Rattle.type_check.specs.TypedExpr.{TypedExpr, TypedStmts, TypedExprs, TypedArms}
use Rattle.type_check.specs.TypedExpr as tree
use Rattle.type_check.specs.TypedExprView.{ty_of, stmt_of, stmts_of}
pub use Rattle.type_parts.specs.Parts.{field_of, is_boxed, part_if, part_number}
use Rattle.type_check.specs.Types.{same_ty, is_signed_ty, is_built, are_built}
use Rattle.type_check.specs.WellTyped.{unit, is_arithmetic, operation_ty, field_at, tys_of_exprs}
use Rattle.type_check.specs.Written.{name_alone, step_of, written_type}

abbrev pub Typed : Type 0
Typed = Result TypedExpr SourceError

-- the expression, where its type is the expected one, if there is one
unfoldable pub fit : Option Ty → Span → TypedExpr → Typed
fit None s e = Ok e
fit (Some t) s e = wanted (same_ty (ty_of e) t) s e

-- ---- literals

-- the type of an integer: that at its end, else the expected one, else i32
abbrev pub literal_kind : Option IntKind → Option Ty → Option IntKind
literal_kind (Some k) t = Some k
literal_kind None None = Some I32
literal_kind None (Some (int k)) = Some k
literal_kind None (Some _) = None

abbrev pub literal_of : Option Ty → Span → ℤ → Option IntKind → Typed
literal_of t s z None = Err (mismatch s)
literal_of t s z (Some k) = if fits k z then fit t s (tree.integer (int k) s z k) else Err (mismatch s)

unfoldable pub literal : Option Ty → Span → ℤ → Option IntKind → Typed
literal t s z k = literal_of t s z (literal_kind k t)

-- ---- operators

-- the spans are the expression's, the operator's and the operand's
unfoldable pub negated : Option Ty → Span → Span → Span → TypedExpr → Typed
negated t s o r a = if is_signed_ty (ty_of a) then fit t s (tree.negative (ty_of a) o a) else Err (mismatch r)

-- an integer without a type at its end
abbrev pub is_bare : Expr → Bool
is_bare (E.integer s z None) = true
is_bare _ = false

-- how the operands get their types: both are checked against one, or the second or the first gives it to the other
abbrev pub order_without : (first second : Bool) → Order
order_without true true = order.Against (int I32)
order_without true false = order.SecondGives
order_without false q = order.FirstGives

-- first, second: whether the operands are integers without a type at their ends
abbrev pub order_of : (arithmetic : Bool) (expected : Option Ty) (first second : Bool) → Order
order_of true (Some t) p q = order.Against t
order_of true None p q = order_without p q
order_of false t p q = order_without p q

abbrev pub operands_of : TypedExpr → TypedExpr → Operands
operands_of a b = record { left = a; right = b }

-- from what the operands are at each expected type
abbrev pub operands : Order → (Option Ty → Typed) → (Option Ty → Typed) → Result Operands SourceError
operands (order.Against t) first second = do
  a ← first (Some t)
  b ← second (Some t)
  Ok (operands_of a b)
operands order.SecondGives first second = do
  b ← second None
  a ← first (Some (ty_of b))
  Ok (operands_of a b)
operands order.FirstGives first second = do
  a ← first None
  b ← second (Some (ty_of a))
  Ok (operands_of a b)

abbrev pub operation : Option Ty → Option Ty → Span → Span → Span → BinaryOp → Operands → Typed
operation None t s o r op p = Err (mismatch r)
operation (Some u) t s o r op p = fit t s (tree.binary u o op p.left p.right)

-- the spans are the expression's, the operator's and the first operand's
unfoldable pub operated : Option Ty → Span → Span → Span → BinaryOp → Operands → Typed
operated t s o r op p = operation (operation_ty op (ty_of p.left)) t s o r op p

-- ---- casts

-- the operand and the type that it is cast to: an integer without a type at its end has that type, all else is typed before it is read
abbrev pub cast_parts : (bare : Bool) → (Option Ty → Typed) → Result Ty SourceError → Result (TypedExpr × Ty) SourceError
cast_parts true operand target = do
  u ← target
  a ← operand (Some u)
  Ok (a, u)
cast_parts false operand target = do
  a ← operand None
  u ← target
  Ok (a, u)

-- from the first type to the second, where each integer of the one is one of the other
abbrev pub cast_from : (first second : Ty) → Option Ty → (whole operand target : Span) → TypedExpr → Typed
cast_from (int j) (int k) t s o r a = if widens j k then fit t s (tree.cast (int k) s a) else Err (mismatch s)
cast_from (int j) _ t s o r a = Err (mismatch r)
cast_from _ u t s o r a = Err (mismatch o)

-- the spans are the expression's, the operand's and the written type's
unfoldable pub widened : Option Ty → (whole operand target : Span) → TypedExpr × Ty → Typed
widened t s o r p = cast_from (ty_of p.0) p.1 t s o r p.0

-- ---- assignments

-- a variable, or a part of it, is written only where it is mutable
abbrev pub is_mutable : Option Variable → Bool
is_mutable None = false
is_mutable (Some v) = v.mutable

-- what is no variable's may be written: it is lost
abbrev pub may_write : List Variable → TypedExpr → Bool
may_write Γ (tree.variable t s x) = is_mutable (slice_get Γ x)
may_write Γ (tree.part t s e n) = may_write Γ e
may_write Γ e = true

abbrev pub if_mutable : Bool → Span → TypedExpr → Typed
if_mutable b s e = if b then Ok e else Err (not_mutable s)

-- the whole, which writes this target; the spans are the expression's and the left side's
abbrev pub writing : List Variable → Option Ty → Span → Span → (target whole : TypedExpr) → Typed
writing Γ t s l a e = fit t s e >>= if_mutable (may_write Γ a) l

unfoldable pub assigned : List Variable → Option Ty → Span → Span → (target value : TypedExpr) → Typed
assigned Γ t s l a e = writing Γ t s l a (tree.assign unit s a e)

abbrev pub is_updated : BinaryOp → Ty → Bool
is_updated op (int k) = is_arithmetic op
is_updated op _ = false

-- the spans are the expression's, the operator's and the left side's
unfoldable pub updated : List Variable → Option Ty → Span → Span → Span → BinaryOp → (target value : TypedExpr) → Typed
updated Γ t s o l op a e = if is_updated op (ty_of a) then writing Γ t s l a (tree.update unit o op a e) else Err (mismatch l)

-- ---- tuples

abbrev pub listed : Tys → List Ty
listed no_tys = []
listed (and_ty t ts) = t ∷ listed ts

-- the types that are expected of the parts of a tuple
abbrev pub parts_of : Option Ty → List Ty
parts_of (Some (tuple ts)) = listed ts
parts_of _ = []

unfoldable pub tupled : Option Ty → Span → TypedExprs → Typed
tupled t s es = fit t s (tree.make (tuple (tys_of_exprs es)) s Tuple es)

-- ---- parts and fields

-- the part, where there is one of a built type; so far nothing is looked for behind a box. The spans are the expression's and that of the name or number
abbrev pub part_by : List AdtDecl → Option Ty → Span → Span → TypedExpr → Option (ℕ × Ty) → Typed
part_by ds t s o a None = if is_boxed (ty_of a) then Err (unbuilt s) else Err (unknown_name o)
part_by ds t s o a (Some p) = if is_built ds p.1 then fit t s (tree.part p.1 s a p.0) else Err (unbuilt s)

unfoldable pub parted : List AdtDecl → Option Ty → Span → Number → TypedExpr → Typed
parted ds t s k a = part_by ds t s k.span a (part_if ds (ty_of a) (part_number k))

unfoldable pub selected : List AdtDecl → Option Ty → Span → Segment → TypedExpr → Typed
selected ds t s x a = part_by ds t s x.span a (field_of ds x.name (ty_of a))

-- ---- struct literals

abbrev pub has_field : Name → List FieldDecl → Bool
has_field x [] = false
has_field x (f ∷ fs) = if f.name.0 == x.0 then true else has_field x fs

-- why the name is not that of the next field: it is that of a later one, which is not built so far, of an earlier one, or of none
abbrev pub not_next : (all left : List FieldDecl) → Segment → SourceError
not_next all left x = if has_field x.name left then unbuilt x.span else if has_field x.name all then double_name x.span else unknown_name x.span

abbrev pub built_field : List AdtDecl → Segment → Ty → Result Ty SourceError
built_field ds x t = if is_built ds t then Ok t else Err (unbuilt x.span)

-- the type of the next field, where the name is its
abbrev pub next_field : List AdtDecl → Maker → List FieldDecl → Segment → Result Ty SourceError
next_field ds m [] x = Err (not_next m.fields [] x)
next_field ds m (f ∷ fs) x = if f.name.0 == x.name.0 then built_field ds x (field_at m.arguments f) else Err (not_next m.fields (f ∷ fs) x)

abbrev pub fields_behind : List FieldDecl → List FieldDecl
fields_behind [] = []
fields_behind (f ∷ fs) = fs

-- at the end of a literal no field may be missing
abbrev pub no_field_left : Span → List FieldDecl → Result TypedExprs SourceError
no_field_left s [] = Ok tree.none
no_field_left s (f ∷ fs) = Err (mismatch s)

unfoldable pub literal_made : Option Ty → Span → Maker → TypedExprs → Typed
literal_made t s m es = fit t s (tree.make (adt m.number [] m.arguments) s (Variant m.number m.variant) es)

-- ---- names

-- the variable that a path is, if it is a name alone
abbrev pub local_of : List Variable → Option Segment → Option Found
local_of Γ None = None
local_of Γ (Some x) = found x.name Γ

-- a value without fields; the span is that of the path
abbrev pub made_alone : Option Ty → Span → Maker → Typed
made_alone t s m = no_field_left s m.fields >>= literal_made t s m

abbrev pub named_by : List AdtDecl → Option Ty → Span → PathNode → Option Found → Typed
named_by ds t s p (Some v) = fit t s (tree.variable v.ty s v.place)
named_by ds t s p None = maker_of ds Alone t s p >>= made_alone t s

-- a path: a variable in scope, else what makes a value without fields
unfoldable pub named : List AdtDecl → List Variable → Option Ty → Span → PathNode → Typed
named ds Γ t s p = named_by ds t s p (local_of Γ (name_alone p))

-- ---- calls

-- what is called
pub data Called : Type 0 where
  of_function : Callee → Called
  of_maker : Maker → Called

abbrev pub field_tys : Maker → List Ty
field_tys m = map (field_at m.arguments) m.fields

-- the span is that of the call
abbrev pub maker_called : List AdtDecl → Span → Maker → Result Called SourceError
maker_called ds s m = if are_built ds (tys_of (field_tys m)) then Ok (of_maker m) else Err (unbuilt s)

abbrev pub constructor_called : List AdtDecl → Option Ty → Span → PathNode → Result Called SourceError
constructor_called ds t s p = maker_of ds Numbered t s p >>= maker_called ds s

abbrev pub or_constructor : List AdtDecl → Option Ty → Span → PathNode → Option Callee → Result Called SourceError
or_constructor ds t s p (Some f) = Ok (of_function f)
or_constructor ds t s p None = constructor_called ds t s p

-- a variable of the name hides a function and a constructor
abbrev pub unless_local : Span → Option Found → Result Called SourceError → Result Called SourceError
unless_local s None m = m
unless_local s (Some v) m = Err (unknown_name s)

abbrev pub called_by : Setting → List Variable → Option Ty → Span → PathNode → Option Segment → Result Called SourceError
called_by σ Γ t s p None = constructor_called σ.types t s p
called_by σ Γ t s p (Some x) = unless_local x.span (found x.name Γ) (or_constructor σ.types t s p (function_from 0 x.name σ.headings))

-- a function, else what makes a value of its arguments
unfoldable pub callee_of : Setting → List Variable → Option Ty → Span → Expr → Result Called SourceError
callee_of σ Γ t s (E.path r p) = called_by σ Γ t s p.node (name_alone p.node)
callee_of σ Γ t s f = Err (unbuilt s)

-- the types of its parameters
abbrev pub params_of : Called → List Ty
params_of (of_function f) = f.signature.params
params_of (of_maker m) = field_tys m

abbrev pub how_many : TypedExprs → ℕ
how_many tree.none = 0
how_many (tree.more e es) = suc (how_many es)

abbrev pub first_of : List Ty → Option Ty
first_of [] = None
first_of (t ∷ ts) = Some t

abbrev pub rest_of : List Ty → List Ty
rest_of [] = []
rest_of (t ∷ ts) = ts

abbrev pub call_of : Option Ty → Span → Called → TypedExprs → Typed
call_of t s (of_function f) es = fit t s (tree.call f.signature.answer s f.place es)
call_of t s (of_maker m) es = literal_made t s m es

unfoldable pub called : Option Ty → Span → Called → TypedExprs → Typed
called t s f es = if how_many es == length (params_of f) then call_of t s f es else Err (mismatch s)

-- ---- blocks

-- what leaves has the type that is asked for: unit where none is
abbrev pub asked : Option Ty → Ty
asked None = unit
asked (Some t) = t

-- the type of a block of these statements, of which t is expected
abbrev pub block_ty : Option Ty → TypedStmts → Ty
block_ty t tree.done = unit
block_ty t (tree.last e) = ty_of e
block_ty t (tree.leaving e) = asked t
block_ty t (tree.bind e ss) = block_ty t ss
block_ty t (tree.run e ss) = block_ty t ss

-- the scope behind a statement of this value
abbrev pub declared : List Variable → Option Declared → TypedExpr → List Variable
declared Γ None e = Γ
declared Γ (Some d) e = Γ ++ record { name = d.name; ty = ty_of e; mutable = d.mutable } ∷ []

abbrev pub binds : Option Declared → Bool
binds None = false
binds (Some d) = true

abbrev pub typed_stmt : Step → TypedExpr → TypedStmt
typed_stmt p e = record { binds = binds p.declares; value = e }

-- statements, and the scope behind them
pub record Opened : Type 0 where
  pub scope : List Variable
  pub stmts : List TypedStmt

abbrev pub opened : List Variable → List TypedStmt → Opened
opened Γ ss = record { scope = Γ; stmts = ss }

-- the statement, and then the others
abbrev pub behind : TypedStmt → Opened → Opened
behind s o = opened o.scope (s ∷ o.stmts)

-- the end of a block without a last expression: its last statement is apart where it leaves
abbrev pub end_of : TypedStmt → TypedStmts
end_of s = if leaves s.value then tree.leaving s.value else stmt_of s.binds s.value tree.done

abbrev pub without_last : List TypedStmt → TypedStmts
without_last [] = tree.done
without_last (s ∷ []) = end_of s
without_last (s ∷ ss) = stmt_of s.binds s.value (without_last ss)

-- a block without statements
abbrev pub nothing : Span → TypedExpr
nothing s = tree.block unit s tree.done

-- a block of these statements
unfoldable pub closed : Option Ty → Span → TypedStmts → Typed
closed t s ss = fit t s (tree.block (block_ty t ss) s ss)

-- ---- `if` with `else`

-- what is asked of the second side: the type of the first, if that has a value
abbrev pub given : Option Ty → (first : TypedExpr) → Option Ty
given t y = if leaves y then t else Some (ty_of y)

-- the type of both sides
abbrev pub choice_ty : (first second : TypedExpr) → Ty
choice_ty y z = if leaves y then ty_of z else ty_of y

abbrev pub chosen : Option Ty → Span → (condition first second : TypedExpr) → Typed
chosen t s x y z = fit t s (tree.choice (choice_ty y z) s x y z)

-- ---- `match`

-- of these arms, and what is asked of one behind them: the type of the first that has a value
abbrev pub matched : Option Ty → Span → (value : TypedExpr) → TypedArms × Option Ty → Typed
matched t s a p = fit t s (tree.matched (asked p.1) s a p.0)

-- `if let` with `else`
abbrev pub chosen_by : Option Ty → Span → (value : TypedExpr) → TypedArm → (second : TypedExpr) → Typed
chosen_by t s a x z = matched t s a (or_else_arm (ty_of a) x z, given (given t x.body) z)

-- `while let`: a loop that is left where the value does not match
abbrev pub repeated_by : Span → List Assertion → (value : TypedExpr) → TypedArm → TypedExpr
repeated_by s is a x = tree.until_break unit s is (tree.matched unit s a (or_else_arm (ty_of a) x (tree.break_off unit s)))

-- ---- what always panics

abbrev pub cause_of : PanicMacro → Cause
cause_of Panic = cause.Panic
cause_of Unreachable = cause.Unreachable

abbrev pub panicked : Option Ty → Span → PanicMacro → Typed
panicked t s m = Ok (tree.panics (asked t) s (cause_of m))

-- ---- `return`

-- `return` with this answer, which fits every type
abbrev pub returned : Option Ty → Span → TypedExpr → TypedExpr
returned t s e = tree.returned (asked t) s e

-- without one, where the answer's type is the first
abbrev pub bare_return : Ty → Option Ty → Span → Typed
bare_return A t s = wanted (same_ty unit A) s (returned t s (nothing s))

-- ---- loops

-- `loop`, which has the type unit where a `break` leaves it, and else fits every type
unfoldable pub endless : Option Ty → Span → List Assertion → TypedExpr → Typed
endless t s is b = if breaks b then fit t s (tree.until_break unit s is b) else Ok (tree.endless (asked t) s is b)

-- `break` and `continue`, in a loop alone
abbrev pub in_a_loop : Bool → Span → TypedExpr → Typed
in_a_loop b s e = wanted b s e

-- before a loop invariants are built, and no other clause
abbrev pub invariant_by : List AdtDecl → List Variable → Span → AttributeNode → Result (Option Assertion) SourceError
invariant_by ds Γ s (A.Clause Invariant p) = Ok (Some (assertion ds None Γ p))
invariant_by ds Γ s A.Skipped = Ok None
invariant_by ds Γ s _ = Err (unbuilt s)

unfoldable pub invariant_of : List AdtDecl → List Variable → Attribute → Result (Option Assertion) SourceError
invariant_of ds Γ a = invariant_by ds Γ a.span a.node

-- ---- expressions

abbrev mutual
  pub typed : Setting → List Variable → Expr → Option Ty → Typed
  typed σ Γ (E.integer s z k) t = literal t s z k
  typed σ Γ (E.truth s b) t = fit t s (tree.truth bool s b)
  typed σ Γ (E.path s p) t = named σ.types Γ t s p.node
  typed σ Γ (E.unary s Neg o e) t = do
    a ← typed σ Γ e t
    negated t s o (span_of e) a
  typed σ Γ (E.unary s Not o e) t = do
    a ← typed σ Γ e (Some bool)
    fit t s (tree.denied bool s a)
  typed σ Γ (E.cast s e w) t = do
    p ← cast_parts (is_bare e) (typed σ Γ e) (written_type σ.types w)
    widened t s (span_of e) (type_span w) p
  typed σ Γ (E.binary s op o a b) t = do
    p ← operands (order_of (is_arithmetic op) t (is_bare a) (is_bare b)) (typed σ Γ a) (typed σ Γ b)
    operated t s o (span_of a) op p
  typed σ Γ (E.lazy s op a b) t = do
    x ← typed σ Γ a (Some bool)
    y ← typed σ Γ b (Some bool)
    fit t s (tree.lazy bool s op x y)
  typed σ Γ (E.assign s l e) t = do
    a ← typed σ Γ l None
    b ← typed σ Γ e (Some (ty_of a))
    assigned Γ t s (span_of l) a b
  typed σ Γ (E.update s op o l e) t = do
    a ← typed σ Γ l None
    b ← typed σ Γ e (Some (ty_of a))
    updated Γ t s o (span_of l) op a b
  typed σ Γ (E.call s f es) t = do
    g ← callee_of σ Γ t s f
    as' ← typed_args σ Γ es (params_of g)
    called t s g as'
  typed σ Γ (E.tuple s es) t = do
    as' ← typed_args σ Γ es (parts_of t)
    tupled t s as'
  typed σ Γ (E.part s e k) t = do
    a ← typed σ Γ e None
    parted σ.types t s k a
  typed σ Γ (E.field s e x []) t = do
    a ← typed σ Γ e None
    selected σ.types t s x a
  typed σ Γ (E.literal s p fs) t = do
    m ← maker_of σ.types Named t s p.node
    as' ← typed_fields σ Γ s m m.fields fs
    literal_made t s m as'
  typed σ Γ (E.block s ss) t = do
    o ← typed_stmts σ Γ ss
    closed t s (without_last o.stmts)
  typed σ Γ (E.block_with s ss e) t = do
    o ← typed_stmts σ Γ ss
    a ← typed σ o.scope e t
    closed t s (stmts_of o.stmts (tree.last a))
  typed σ Γ (E.branch s None c a) t = do
    x ← typed σ Γ c (Some bool)
    y ← typed σ Γ a (Some unit)
    fit t s (tree.branch unit s x y)
  typed σ Γ (E.choice s None c a b) t = do
    x ← typed σ Γ c (Some bool)
    y ← typed σ Γ a t
    z ← typed σ Γ b (given t y)
    chosen t s x y z
  typed σ Γ (E.branch s (Some p) c e) t = do
    a ← typed σ Γ c None
    x ← arm_from (pattern_at σ.types (ty_of a) p) (λ b. typed σ (in_arm Γ b.1) e (Some unit))
    fit t s (tree.matched unit s a (or_else_arm (ty_of a) x (nothing s)))
  typed σ Γ (E.choice s (Some p) c d e) t = do
    a ← typed σ Γ c None
    x ← arm_from (pattern_at σ.types (ty_of a) p) (λ b. typed σ (in_arm Γ b.1) d t)
    z ← typed σ Γ e (given t x.body)
    chosen_by t s a x z
  typed σ Γ (E.matching s e as') t = do
    a ← typed σ Γ e None
    p ← typed_arms σ Γ (ty_of a) t tree.no_arms as'
    matched t s a p
  typed σ Γ (E.repeat s None c b) t = do
    x ← typed (outside σ) Γ c (Some bool)
    y ← typed (looping σ) Γ b (Some unit)
    fit t s (tree.repeat unit s [] x y)
  -- a loop with its invariants, from the first attribute on
  typed σ Γ (E.attributed s is (E.repeat r None c b)) t = do
    is' ← gather (invariant_of σ.types Γ) is
    x ← typed (outside σ) Γ c (Some bool)
    y ← typed (looping σ) Γ b (Some unit)
    fit t s (tree.repeat unit s is' x y)
  typed σ Γ (E.repeat s (Some p) c b) t = do
    a ← typed (outside σ) Γ c None
    x ← arm_from (pattern_at σ.types (ty_of a) p) (λ g. typed (looping σ) (in_arm Γ g.1) b (Some unit))
    fit t s (repeated_by s [] a x)
  typed σ Γ (E.attributed s is (E.repeat r (Some p) c b)) t = do
    is' ← gather (invariant_of σ.types Γ) is
    a ← typed (outside σ) Γ c None
    x ← arm_from (pattern_at σ.types (ty_of a) p) (λ g. typed (looping σ) (in_arm Γ g.1) b (Some unit))
    fit t s (repeated_by s is' a x)
  typed σ Γ (E.panic s m text) t = panicked t s m
  typed σ Γ (E.bare_return s) t = bare_return σ.answer t s
  typed σ Γ (E.return_with s e) t = do
    a ← typed σ Γ e (Some σ.answer)
    Ok (returned t s a)
  typed σ Γ (E.endless s b) t = do
    x ← typed (looping σ) Γ b (Some unit)
    endless t s [] x
  typed σ Γ (E.attributed s is (E.endless r b)) t = do
    is' ← gather (invariant_of σ.types Γ) is
    x ← typed (looping σ) Γ b (Some unit)
    endless t s is' x
  typed σ Γ (E.break_off s) t = in_a_loop σ.in_loop s (tree.break_off (asked t) s)
  typed σ Γ (E.go_on s) t = in_a_loop σ.in_loop s (tree.go_on (asked t) s)
  typed σ Γ e t = Err (unbuilt (span_of e))

  pub typed_stmts : Setting → List Variable → E.Stmts → Result Opened SourceError
  typed_stmts σ Γ E.no_stmts = Ok (opened Γ [])
  typed_stmts σ Γ (E.with_stmt s k e ss) = do
    p ← step_of σ.types k
    a ← typed σ Γ e p.expected
    o ← typed_stmts σ (declared Γ p.declares a) ss
    Ok (behind (typed_stmt p a) o)

  -- arguments for parameters of these types; those past the parameters have any type
  pub typed_args : Setting → List Variable → E.Exprs → List Ty → Result TypedExprs SourceError
  typed_args σ Γ E.none ts = Ok tree.none
  typed_args σ Γ (E.more e es) ts = do
    a ← typed σ Γ e (first_of ts)
    as' ← typed_args σ Γ es (rest_of ts)
    Ok (tree.more a as')

  -- the fields of a literal, of which these are left
  pub typed_fields : Setting → List Variable → Span → Maker → List FieldDecl → E.FieldExprs → Result TypedExprs SourceError
  typed_fields σ Γ s m left E.no_fields = no_field_left s left
  typed_fields σ Γ s m left (E.with_field r x e fs) = do
    u ← next_field σ.types m left x
    a ← typed σ Γ e (Some u)
    as' ← typed_fields σ Γ s m (fields_behind left) fs
    Ok (tree.more a as')

  -- the arms at a value of type u behind those that are made, where t is asked of them: the first that has a value gives its type to those behind it
  pub typed_arms : Setting → List Variable → (u : Ty) → (t : Option Ty) → (made : TypedArms) → E.Arms → Result (TypedArms × Option Ty) SourceError
  typed_arms σ Γ u t made E.no_arms = Ok (made, t)
  typed_arms σ Γ u t made (E.with_arm r p e as') = do
    x ← arm_from (pattern_at σ.types u p) (λ b. typed σ (in_arm Γ b.1) e t)
    typed_arms σ Γ u (given t x.body) (and_arm made x) as'

-- an arm of this pattern, whose names are in scope in its body
abbrev pub typed_arm : Setting → List Variable → (u : Ty) → (t : Option Ty) → Written → Expr → Result TypedArm SourceError
typed_arm σ Γ u t p e = arm_from (pattern_at σ.types u p) (λ b. typed σ (in_arm Γ b.1) e t)

-- a statement, and the scope behind it
abbrev pub typed_statement : Setting → List Variable → Stmt → Result (List Variable × TypedStmt) SourceError
typed_statement σ Γ s = do
  p ← step_of σ.types s.kind
  a ← typed σ Γ s.value p.expected
  Ok (declared Γ p.declares a, typed_stmt p a)
