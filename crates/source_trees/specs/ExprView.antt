-- The expressions that nodes stand for, and how deep they are.
use Rattle.std.specs.Prelude.{ℕ, suc, max, List, [], ◌∷◌}
use Rattle.text_core.specs.declared.span.Span.{Span}
use Rattle.source_trees.specs.Expr.{Expr, integer, truth, receiver, path, literal, tuple, block, block_with, branch, choice, matching, repeat, endless, attributed, closure, bare_return, return_with, break_off, go_on, panic, logical}
use Rattle.source_trees.specs.Expr.{assign, update, lazy, binary, cast, unary, borrow, field, part, method, call, Exprs, none, more, Stmts, no_stmts, with_stmt, Arms, no_arms, with_arm, FieldExprs, no_fields}
use Rattle.source_trees.specs.Expr.{with_field}
use Rattle.source_trees.specs.declared.expr.ExprNode.{ExprNode}
use Rattle.source_trees.specs.declared.expr.ExprNode.TheVariants as node
use Rattle.source_trees.specs.declared.expr.Stmt.{Stmt}
use Rattle.source_trees.specs.declared.expr.Arm.{Arm}
use Rattle.source_trees.specs.declared.expr.FieldExpr.{FieldExpr}

abbrev pub exprs_of : List Expr → Exprs
exprs_of [] = none
exprs_of (x ∷ xs) = more x (exprs_of xs)

abbrev pub stmts_of : List Stmt → Stmts
stmts_of [] = no_stmts
stmts_of (x ∷ xs) = with_stmt x.span x.kind x.value (stmts_of xs)

abbrev pub arms_of : List Arm → Arms
arms_of [] = no_arms
arms_of (x ∷ xs) = with_arm x.span x.pattern x.body (arms_of xs)

abbrev pub field_exprs_of : List FieldExpr → FieldExprs
field_exprs_of [] = no_fields
field_exprs_of (x ∷ xs) = with_field x.span x.name x.value (field_exprs_of xs)

abbrev pub expr_of : Span → ExprNode → Expr
expr_of s (node.Int a0 a1) = integer s a0 a1
expr_of s (node.Truth a0) = truth s a0
expr_of s node.Receiver = receiver s
expr_of s (node.Path a0) = path s a0
expr_of s (node.Literal a0 a1) = literal s a0 (field_exprs_of a1.items)
expr_of s (node.Tuple a0) = tuple s (exprs_of a0.items)
expr_of s (node.Block a0) = block s (stmts_of a0.items)
expr_of s (node.BlockWith a0 a1) = block_with s (stmts_of a0.items) a1
expr_of s (node.If a0 a1 a2) = branch s a0 a1 a2
expr_of s (node.IfElse a0 a1 a2 a3) = choice s a0 a1 a2 a3
expr_of s (node.Match a0 a1) = matching s a0 (arms_of a1.items)
expr_of s (node.While a0 a1 a2) = repeat s a0 a1 a2
expr_of s (node.Loop a0) = endless s a0
expr_of s (node.Attributed a0 a1) = attributed s a0 a1
expr_of s (node.Closure a0 a1 a2 a3 a4) = closure s a0 a1 a2 a3 a4
expr_of s node.Return = bare_return s
expr_of s (node.ReturnWith a0) = return_with s a0
expr_of s node.Break = break_off s
expr_of s node.Continue = go_on s
expr_of s (node.Panic a0 a1) = panic s a0 a1
expr_of s (node.Ghost a0 a1) = logical s a0 a1
expr_of s (node.Assign a0 a1) = assign s a0 a1
expr_of s (node.Update a0 a1 a2 a3) = update s a0 a1 a2 a3
expr_of s (node.Lazy a0 a1 a2) = lazy s a0 a1 a2
expr_of s (node.Binary a0 a1 a2 a3) = binary s a0 a1 a2 a3
expr_of s (node.Cast a0 a1) = cast s a0 a1
expr_of s (node.Unary a0 a1 a2) = unary s a0 a1 a2
expr_of s (node.Borrow a0 a1) = borrow s a0 a1
expr_of s (node.Field a0 a1 a2) = field s a0 a1 a2
expr_of s (node.Part a0 a1) = part s a0 a1
expr_of s (node.Method a0 a1 a2 a3) = method s a0 a1 a2 (exprs_of a3.items)
expr_of s (node.Call a0 a1) = call s a0 (exprs_of a1.items)

abbrev mutual
  pub expr_size : Expr → ℕ
  expr_size (integer a0 a1 a2) = 1
  expr_size (truth a0 a1) = 1
  expr_size (receiver a0) = 1
  expr_size (path a0 a1) = 1
  expr_size (literal a0 a1 a2) = suc (field_exprs_size a2)
  expr_size (tuple a0 a1) = suc (exprs_size a1)
  expr_size (block a0 a1) = suc (stmts_size a1)
  expr_size (block_with a0 a1 a2) = suc (max (stmts_size a1) (expr_size a2))
  expr_size (branch a0 a1 a2 a3) = suc (max (expr_size a2) (expr_size a3))
  expr_size (choice a0 a1 a2 a3 a4) = suc (max (expr_size a2) (max (expr_size a3) (expr_size a4)))
  expr_size (matching a0 a1 a2) = suc (max (expr_size a1) (arms_size a2))
  expr_size (repeat a0 a1 a2 a3) = suc (max (expr_size a2) (expr_size a3))
  expr_size (endless a0 a1) = suc (expr_size a1)
  expr_size (attributed a0 a1 a2) = suc (expr_size a2)
  expr_size (closure a0 a1 a2 a3 a4 a5) = suc (expr_size a5)
  expr_size (bare_return a0) = 1
  expr_size (return_with a0 a1) = suc (expr_size a1)
  expr_size (break_off a0) = 1
  expr_size (go_on a0) = 1
  expr_size (panic a0 a1 a2) = 1
  expr_size (logical a0 a1 a2) = 1
  expr_size (assign a0 a1 a2) = suc (max (expr_size a1) (expr_size a2))
  expr_size (update a0 a1 a2 a3 a4) = suc (max (expr_size a3) (expr_size a4))
  expr_size (lazy a0 a1 a2 a3) = suc (max (expr_size a2) (expr_size a3))
  expr_size (binary a0 a1 a2 a3 a4) = suc (max (expr_size a3) (expr_size a4))
  expr_size (cast a0 a1 a2) = suc (expr_size a1)
  expr_size (unary a0 a1 a2 a3) = suc (expr_size a3)
  expr_size (borrow a0 a1 a2) = suc (expr_size a2)
  expr_size (field a0 a1 a2 a3) = suc (expr_size a1)
  expr_size (part a0 a1 a2) = suc (expr_size a1)
  expr_size (method a0 a1 a2 a3 a4) = suc (max (expr_size a1) (exprs_size a4))
  expr_size (call a0 a1 a2) = suc (max (expr_size a1) (exprs_size a2))

  pub exprs_size : Exprs → ℕ
  exprs_size none = 1
  exprs_size (more a0 a1) = suc (max (expr_size a0) (exprs_size a1))

  pub stmts_size : Stmts → ℕ
  stmts_size no_stmts = 1
  stmts_size (with_stmt a0 a1 a2 a3) = suc (max (expr_size a2) (stmts_size a3))

  pub arms_size : Arms → ℕ
  arms_size no_arms = 1
  arms_size (with_arm a0 a1 a2 a3) = suc (max (expr_size a2) (arms_size a3))

  pub field_exprs_size : FieldExprs → ℕ
  field_exprs_size no_fields = 1
  field_exprs_size (with_field a0 a1 a2 a3) = suc (max (expr_size a2) (field_exprs_size a3))

abbrev pub span_of : Expr → Span
span_of (integer s a0 a1) = s
span_of (truth s a0) = s
span_of (receiver s) = s
span_of (path s a0) = s
span_of (literal s a0 a1) = s
span_of (tuple s a0) = s
span_of (block s a0) = s
span_of (block_with s a0 a1) = s
span_of (branch s a0 a1 a2) = s
span_of (choice s a0 a1 a2 a3) = s
span_of (matching s a0 a1) = s
span_of (repeat s a0 a1 a2) = s
span_of (endless s a0) = s
span_of (attributed s a0 a1) = s
span_of (closure s a0 a1 a2 a3 a4) = s
span_of (bare_return s) = s
span_of (return_with s a0) = s
span_of (break_off s) = s
span_of (go_on s) = s
span_of (panic s a0 a1) = s
span_of (logical s a0 a1) = s
span_of (assign s a0 a1) = s
span_of (update s a0 a1 a2 a3) = s
span_of (lazy s a0 a1 a2) = s
span_of (binary s a0 a1 a2 a3) = s
span_of (cast s a0 a1) = s
span_of (unary s a0 a1 a2) = s
span_of (borrow s a0 a1) = s
span_of (field s a0 a1 a2) = s
span_of (part s a0 a1) = s
span_of (method s a0 a1 a2 a3) = s
span_of (call s a0 a1) = s
