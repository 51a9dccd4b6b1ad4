-- Why program code is refused: E05 at a name that means nothing there, E22 at the name of a variable that is written and is not `mut`, a type
-- that is not the one wanted, a pattern that is refused at the type of its value, or a form that is not built.
use Rattle.std.specs.Prelude.{◌≡◌, ◌⊎◌, false, List, [], Option, Some, None, Ok, Err, slice_get}
use Rattle.text_core.specs.declared.name.Name.{Name}
use Rattle.text_core.specs.declared.refusal.SourceError.{SourceError}
use Rattle.text_core.specs.declared.span.Span.{Span}
use Rattle.logic_term.specs.declared.declaration.FieldDecl.{FieldDecl}
use Rattle.logic_term.specs.declared.declaration.VariantKind.TheVariants.{Named, Unit as Alone}
use Rattle.logic_term.specs.Ty.{Ty}
use Rattle.source_trees.specs.declared.operator.UnaryOp.TheVariants.{Neg, Not}
use Rattle.source_trees.specs.declared.path.Number.{Number}
use Rattle.source_trees.specs.declared.path.PathNode.{PathNode}
use Rattle.source_trees.specs.declared.path.Segment.{Segment}
use Rattle.source_trees.specs.declared.statement.StmtKind.{StmtKind}
use Rattle.source_trees.specs.declared.statement.StmtKind.TheVariants.{Let}
use Rattle.source_trees.specs.Pat.{Pat}
use Rattle.source_trees.specs.TypeTree.{TypeTree}
use Rattle.source_trees.specs.Expr as E
use Rattle.source_trees.specs.Expr.{Expr}
use Rattle.source_trees.specs.ExprView.{span_of}
use Rattle.type_check.specs.declared.scope.Found.{Found}
use Rattle.type_check.specs.declared.scope.Variable.{Variable}
use Rattle.type_check.specs.declared.statements.Step.{Step}
use Rattle.type_check.specs.Answers.{◌>>=◌, unknown_name, mismatch, unbuilt, not_mutable}
use Rattle.type_check.specs.Arms.{Binding, pattern_at, in_arm}
use Rattle.type_check.specs.Makers.{Maker, maker_of}
use Rattle.type_check.specs.Scope.{found}
use Rattle.type_check.specs.Setting.{Setting, looping, outside}
use Rattle.type_check.specs.TypedExpr.{TypedExpr}
use Rattle.type_check.specs.TypedExprView.{ty_of}
use Rattle.type_check.specs.Typing.{Opened, declared, is_mutable, part_number, part_if, field_of, local_of, callee_of, next_field, fields_behind, no_field_left, typed, typed_stmts}
use Rattle.type_check.specs.Written.{as_name, name_alone, step_of, written_type}

abbrev pub IsMismatch : SourceError → Type 0
IsMismatch e = (s : Span) × (e ≡ mismatch s)

abbrev pub IsUnbuilt : SourceError → Type 0
IsUnbuilt e = (s : Span) × (e ≡ unbuilt s)

-- no variable of the name is in scope
abbrev pub IsUnknown : List Variable → Name → Span → SourceError → Type 0
IsUnknown Γ x s e = (e ≡ unknown_name s) × (found x Γ ≡ None)

-- the variable of the name is not mutable
abbrev pub IsConstant : List Variable → Name → Span → SourceError → Type 0
IsConstant Γ x s e = (v : Found) × (found x Γ ≡ Some v) × (is_mutable (slice_get Γ v.place) ≡ false) × (e ≡ not_mutable s)

-- no variable is the path, and it makes no value without fields, or its type arguments are not found
abbrev pub IsNoValue : Setting → List Variable → Span → PathNode → SourceError → Type 0
IsNoValue σ Γ s p e = (local_of Γ (name_alone p) ≡ None) × (t : Option Ty) × ((maker_of σ.types Alone t s p >>= λ m. no_field_left s m.fields) ≡ Err e)

-- the name at the root of the parts
abbrev pub root_name : Expr → Option Segment
root_name (E.part s e k) = root_name e
root_name (E.field s e x []) = root_name e
root_name e = as_name e

-- the left side of an assignment is the name of such a variable, or a part of it
abbrev pub IsNotWritten : List Variable → Expr → SourceError → Type 0
IsNotWritten Γ l e = (x : Segment) × (root_name l ≡ Some x) × IsConstant Γ x.name (span_of l) e

-- what is called is neither a function nor makes a value of arguments, or its type arguments are not found; the span is that of the call
abbrev pub IsNotCalled : Setting → List Variable → Span → Expr → SourceError → Type 0
IsNotCalled σ Γ s f e = (t : Option Ty) × (callee_of σ Γ t s f ≡ Err e)

-- it stands in no loop
abbrev pub IsInNoLoop : Setting → Span → SourceError → Type 0
IsInNoLoop σ s e = (σ.in_loop ≡ false) × (e ≡ mismatch s)

-- the value has no part of the number
abbrev pub IsNoPart : Setting → List Variable → Expr → Number → SourceError → Type 0
IsNoPart σ Γ a k e = (v : TypedExpr) × (typed σ Γ a None ≡ Ok v) × (part_if σ.types (ty_of v) (part_number k) ≡ None) × (e ≡ unknown_name k.span)

-- the value has no field of the name
abbrev pub IsNoField : Setting → List Variable → Expr → Segment → SourceError → Type 0
IsNoField σ Γ a x e = (v : TypedExpr) × (typed σ Γ a None ≡ Ok v) × (field_of σ.types x.name (ty_of v) ≡ None) × (e ≡ unknown_name x.span)

-- a literal makes no value with named fields, or its type arguments are not found
abbrev pub IsNotMade : Setting → Span → PathNode → SourceError → Type 0
IsNotMade σ s p e = (t : Option Ty) × (maker_of σ.types Named t s p ≡ Err e)

-- the type that a `let` has
abbrev pub written_in : StmtKind → Option TypeTree
written_in (Let p w) = w
written_in _ = None

-- it is refused
abbrev pub IsNoType : Setting → StmtKind → SourceError → Type 0
IsNoType σ k e = (w : TypeTree) × (written_in k ≡ Some w) × (written_type σ.types w ≡ Err e)

-- what is cast to is refused
abbrev pub IsNoTarget : Setting → TypeTree → SourceError → Type 0
IsNoTarget σ w e = written_type σ.types w ≡ Err e

-- the pattern is refused at the type of the value
abbrev pub IsNoPattern : Setting → TypedExpr → Pat → SourceError → Type 0
IsNoPattern σ a p e = pattern_at σ.types (ty_of a) p ≡ Err e

-- the pattern of an arm is refused, or its body has the cause, in the scope of the names that the pattern binds
abbrev pub IsInArm : Setting → List Variable → (value : Expr) → Pat → (cause : List Variable → Type 0) → SourceError → Type 0
IsInArm σ Γ c p cause e = (v : TypedExpr) × (typed σ Γ c None ≡ Ok v) × (IsNoPattern σ v p e ⊎ ((b : Binding) × (pattern_at σ.types (ty_of v) p ≡ Ok b) × cause (in_arm Γ b.1)))

-- the refusal has its cause at the expression or at a part of it, in the scope of that part
abbrev mutual
  pub Causes : Setting → List Variable → Expr → SourceError → Type 0
  Causes σ Γ (E.integer s z k) e = IsMismatch e
  Causes σ Γ (E.truth s b) e = IsMismatch e
  Causes σ Γ (E.path s p) e = IsMismatch e ⊎ IsNoValue σ Γ s p.node e
  Causes σ Γ (E.unary s Neg o a) e = IsMismatch e ⊎ Causes σ Γ a e
  Causes σ Γ (E.unary s Not o a) e = IsMismatch e ⊎ Causes σ Γ a e
  Causes σ Γ (E.cast s a w) e = (IsMismatch e ⊎ IsNoTarget σ w e) ⊎ Causes σ Γ a e
  Causes σ Γ (E.binary s op o a b) e = IsMismatch e ⊎ (Causes σ Γ a e ⊎ Causes σ Γ b e)
  Causes σ Γ (E.lazy s op a b) e = IsMismatch e ⊎ (Causes σ Γ a e ⊎ Causes σ Γ b e)
  Causes σ Γ (E.assign s l a) e = (IsMismatch e ⊎ IsNotWritten Γ l e) ⊎ (Causes σ Γ l e ⊎ Causes σ Γ a e)
  Causes σ Γ (E.update s op o l a) e = (IsMismatch e ⊎ IsNotWritten Γ l e) ⊎ (Causes σ Γ l e ⊎ Causes σ Γ a e)
  Causes σ Γ (E.call s f es) e = (IsMismatch e ⊎ IsNotCalled σ Γ s f e) ⊎ CausesInArgs σ Γ es e
  Causes σ Γ (E.tuple s es) e = IsMismatch e ⊎ CausesInArgs σ Γ es e
  -- the number is that of no part
  Causes σ Γ (E.part s a k) e = ((IsMismatch e ⊎ IsUnbuilt e) ⊎ IsNoPart σ Γ a k e) ⊎ Causes σ Γ a e
  Causes σ Γ (E.field s a x []) e = ((IsMismatch e ⊎ IsUnbuilt e) ⊎ IsNoField σ Γ a x e) ⊎ Causes σ Γ a e
  Causes σ Γ (E.literal s p fs) e = (IsMismatch e ⊎ IsNotMade σ s p.node e) ⊎ ((m : Maker) × CausesInFields σ Γ s m m.fields fs e)
  Causes σ Γ (E.block s ss) e = IsMismatch e ⊎ CausesInStmts σ Γ ss e
  Causes σ Γ (E.block_with s ss a) e = IsMismatch e ⊎ (CausesInStmts σ Γ ss e ⊎ ((o : Opened) × (typed_stmts σ Γ ss ≡ Ok o) × Causes σ o.scope a e))
  Causes σ Γ (E.branch s None c a) e = IsMismatch e ⊎ (Causes σ Γ c e ⊎ Causes σ Γ a e)
  Causes σ Γ (E.choice s None c a b) e = IsMismatch e ⊎ (Causes σ Γ c e ⊎ (Causes σ Γ a e ⊎ Causes σ Γ b e))
  Causes σ Γ (E.branch s (Some p) c a) e = IsMismatch e ⊎ (Causes σ Γ c e ⊎ IsInArm σ Γ c p (λ Δ. Causes σ Δ a e) e)
  Causes σ Γ (E.choice s (Some p) c a b) e = IsMismatch e ⊎ (Causes σ Γ c e ⊎ (IsInArm σ Γ c p (λ Δ. Causes σ Δ a e) e ⊎ Causes σ Γ b e))
  Causes σ Γ (E.matching s c as') e = IsMismatch e ⊎ (Causes σ Γ c e ⊎ CausesInArms σ Γ c as' e)
  Causes σ Γ (E.repeat s None c b) e = IsMismatch e ⊎ (Causes (outside σ) Γ c e ⊎ Causes (looping σ) Γ b e)
  -- or an attribute before the loop is no invariant
  Causes σ Γ (E.attributed s is (E.repeat r None c b)) e = (IsMismatch e ⊎ IsUnbuilt e) ⊎ (Causes (outside σ) Γ c e ⊎ Causes (looping σ) Γ b e)
  Causes σ Γ (E.repeat s (Some p) c b) e = IsMismatch e ⊎ (Causes (outside σ) Γ c e ⊎ IsInArm (outside σ) Γ c p (λ Δ. Causes (looping σ) Δ b e) e)
  Causes σ Γ (E.attributed s is (E.repeat r (Some p) c b)) e = (IsMismatch e ⊎ IsUnbuilt e) ⊎ (Causes (outside σ) Γ c e ⊎ IsInArm (outside σ) Γ c p (λ Δ. Causes (looping σ) Δ b e) e)
  -- what panics fits every type
  Causes σ Γ (E.panic s m text) e = ⊥
  -- without a value, the answer's type is unit
  Causes σ Γ (E.bare_return s) e = IsMismatch e
  Causes σ Γ (E.return_with s a) e = Causes σ Γ a e
  -- a loop that is left is unit
  Causes σ Γ (E.endless s b) e = IsMismatch e ⊎ Causes (looping σ) Γ b e
  Causes σ Γ (E.attributed s is (E.endless r b)) e = (IsMismatch e ⊎ IsUnbuilt e) ⊎ Causes (looping σ) Γ b e
  Causes σ Γ (E.break_off s) e = IsInNoLoop σ s e
  Causes σ Γ (E.go_on s) e = IsInNoLoop σ s e
  Causes σ Γ a e = e ≡ unbuilt (span_of a)

  pub CausesInStmts : Setting → List Variable → E.Stmts → SourceError → Type 0
  CausesInStmts σ Γ E.no_stmts e = ⊥
  -- the pattern of a `let` is not built, or its type is refused, or the value is refused, or what stands behind it
  CausesInStmts σ Γ (E.with_stmt s k a ss) e =
      (IsUnbuilt e ⊎ IsNoType σ k e) ⊎ (Causes σ Γ a e ⊎ ((p : Step) × (v : TypedExpr) × (step_of σ.types k ≡ Ok p) × (typed σ Γ a p.expected ≡ Ok v) × CausesInStmts σ (declared Γ p.declares v) ss e))

  pub CausesInArgs : Setting → List Variable → E.Exprs → SourceError → Type 0
  CausesInArgs σ Γ E.none e = ⊥
  CausesInArgs σ Γ (E.more a es) e = Causes σ Γ a e ⊎ CausesInArgs σ Γ es e

  -- a field is missing at the end, or a name is not that of the next field, or a value is refused
  pub CausesInFields : Setting → List Variable → Span → Maker → List FieldDecl → E.FieldExprs → SourceError → Type 0
  CausesInFields σ Γ s m left E.no_fields e = no_field_left s left ≡ Err e
  CausesInFields σ Γ s m left (E.with_field r x a fs) e = (next_field σ.types m left x ≡ Err e) ⊎ (Causes σ Γ a e ⊎ CausesInFields σ Γ s m (fields_behind left) fs e)

  pub CausesInArms : Setting → List Variable → (value : Expr) → E.Arms → SourceError → Type 0
  CausesInArms σ Γ c E.no_arms e = ⊥
  CausesInArms σ Γ c (E.with_arm r p a as') e = IsInArm σ Γ c p (λ Δ. Causes σ Δ a e) e ⊎ CausesInArms σ Γ c as' e

-- a refusal of program code has a cause
abbrev pub RefusalsHaveCauses : Type 0
RefusalsHaveCauses = (σ : Setting) (Γ : List Variable) (a : Expr) (t : Option Ty) (e : SourceError) → typed σ Γ a t ≡ Err e → Causes σ Γ a e
