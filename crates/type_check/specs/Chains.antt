-- Chains of operations, which group to the left: an operation whose left operand is typed first, and what stands above an operand.
use Rattle.std.specs.Prelude.{◌≡◌, ℕ, suc, max, false, List, [], ◌∷◌, Option, Some, None, if◌then◌else◌}
use Rattle.text_core.specs.declared.span.Span.{Span}
use Rattle.logic_term.specs.declared.declaration.AdtDecl.{AdtDecl}
use Rattle.logic_term.specs.Ty.{Ty, bool}
use Rattle.source_trees.specs.Expr as E
use Rattle.source_trees.specs.Expr.{Expr}
use Rattle.source_trees.specs.ExprView.{expr_size, span_of}
use Rattle.source_trees.specs.TypeTree.{TypeTree}
use Rattle.source_trees.specs.TypeTreeView.{span_of as type_span}
use Rattle.type_check.specs.declared.chain.Above.{Above}
use Rattle.type_check.specs.declared.chain.Above.TheVariants as above
use Rattle.type_check.specs.declared.chain.Frame.{Frame}
use Rattle.type_check.specs.declared.chain.Operation.{Operation}
use Rattle.type_check.specs.declared.chain.Operation.TheVariants as operation
use Rattle.type_check.specs.declared.scope.Variable.{Variable}
use Rattle.type_check.specs.Answers.{◌>>=◌}
use Rattle.type_check.specs.Setting.{Setting}
use Rattle.type_check.specs.TypedExpr.{TypedExpr}
use Rattle.type_check.specs.TypedExpr as tree
use Rattle.type_check.specs.TypedExprView.{ty_of}
use Rattle.type_check.specs.Typing.{Typed, fit, is_bare, operands_of, operated, typed, updated, widened}
use Rattle.type_check.specs.WellTyped.{is_arithmetic}
use Rattle.type_check.specs.Written.{written_type}

-- the expression that the operation is
abbrev pub written : Span → Operation → Expr
written s (operation.Binary op o a b) = E.binary s op o a.now b.now
written s (operation.Lazy op a b) = E.lazy s op a.now b.now
written s (operation.Update op o a b) = E.update s op o a.now b.now

abbrev pub left_of : Operation → Expr
left_of (operation.Binary op o a b) = a.now
left_of (operation.Lazy op a b) = a.now
left_of (operation.Update op o a b) = a.now

abbrev pub right_of : Operation → Expr
right_of (operation.Binary op o a b) = b.now
right_of (operation.Lazy op a b) = b.now
right_of (operation.Update op o a b) = b.now

-- its left operand is typed first
abbrev pub GoesLeft : Operation → Type 0
GoesLeft (operation.Binary op o a b) = is_bare a.now ≡ false
GoesLeft (operation.Lazy op a b) = Unit {0}
GoesLeft (operation.Update op o a b) = Unit {0}

-- the types of the operands, where this one is expected of the whole
abbrev pub first_ty : Operation → Option Ty → Option Ty
first_ty (operation.Binary op o a b) t = if is_arithmetic op then t else None
first_ty (operation.Lazy op a b) t = Some bool
first_ty (operation.Update op o a b) t = None

abbrev pub ty_or : Option Ty → TypedExpr → Ty
ty_or (Some t) e = t
ty_or None e = ty_of e

abbrev pub second_ty : Operation → Option Ty → TypedExpr → Ty
second_ty o t e = ty_or (first_ty o t) e

-- of these operands
abbrev pub ended : List Variable → Span → Operation → Option Ty → TypedExpr → TypedExpr → Typed
ended Γ s (operation.Binary op o a b) t x y = operated t s o (span_of a.now) op (operands_of x y)
ended Γ s (operation.Lazy op a b) t x y = fit t s (tree.lazy bool s op x y)
ended Γ s (operation.Update op o a b) t x y = updated Γ t s o (span_of a.now) op x y

-- what the operation comes to behind its left operand
abbrev pub finished : Setting → List Variable → Span → Operation → Option Ty → TypedExpr → Typed
finished σ Γ s o t x = typed σ Γ (right_of o) (Some (second_ty o t x)) >>= ended Γ s o t x

-- ---- what stands above a left operand: an operation, or a cast

abbrev pub written_above : Span → Above → Expr
written_above s (above.Operation o) = written s o
written_above s (above.Cast a w) = E.cast s a.now w.now

abbrev pub operand_of : Above → Expr
operand_of (above.Operation o) = left_of o
operand_of (above.Cast a w) = a.now

-- the operand is typed first
abbrev pub GoesFirst : Above → Type 0
GoesFirst (above.Operation o) = GoesLeft o
GoesFirst (above.Cast a w) = is_bare a.now ≡ false

-- the type that is expected of the operand, where this one is expected of the whole
abbrev pub operand_ty : Above → Option Ty → Option Ty
operand_ty (above.Operation o) t = first_ty o t
operand_ty (above.Cast a w) t = None

abbrev pub cast_behind : List AdtDecl → Span → Expr → TypeTree → Option Ty → TypedExpr → Typed
cast_behind ds s a w t x = written_type ds w >>= λ u. widened t s (span_of a) (type_span w) (x, u)

-- what it comes to behind the operand
abbrev pub finished_above : Setting → List Variable → Span → Above → Option Ty → TypedExpr → Typed
finished_above σ Γ s (above.Operation o) t x = finished σ Γ s o t x
finished_above σ Γ s (above.Cast a w) t x = cast_behind σ.types s a.now w.now t x

abbrev pub behind : Setting → List Variable → Frame → TypedExpr → Typed
behind σ Γ f = finished_above σ Γ f.whole f.above f.expected

-- ---- frames

-- what the outermost of these comes to, from the left operand of the innermost
abbrev pub climbed : Setting → List Variable → List Frame → Typed → Typed
climbed σ Γ [] m = m
climbed σ Γ (f ∷ fs) m = climbed σ Γ fs m >>= behind σ Γ f

-- the size of the right operand, if there is one
abbrev pub right_size : Above → ℕ
right_size (above.Operation o) = expr_size (right_of o)
right_size (above.Cast a w) = 0

-- more than the sizes of their right operands
abbrev pub frames_size : List Frame → ℕ
frames_size [] = 0
frames_size (f ∷ fs) = max (suc (right_size f.above)) (frames_size fs)
