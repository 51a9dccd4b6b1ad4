-- The parts of an expression are smaller than it.
use Rattle.std.specs.Prelude.{◌+◌, ◌≤◌, max, List, [], ◌∷◌}
use Rattle.std.proofs.Common.{arith}
use denote.Param.Weighed.{most}
use Rattle.text_core.specs.declared.span.Span.{Span}
use Rattle.source_trees.specs.Expr.{Expr}
use Rattle.source_trees.specs.ExprView.{expr_of, exprs_of, stmts_of, arms_of, field_exprs_of, expr_size, exprs_size, stmts_size, arms_size, field_exprs_size}
use Rattle.source_trees.specs.declared.expr.Stmt.{Stmt}
use Rattle.source_trees.specs.declared.expr.Arm.{Arm}
use Rattle.source_trees.specs.declared.expr.FieldExpr.{FieldExpr}
use Rattle.source_trees.specs.declared.expr.ExprNode.{ExprNode}
use Rattle.source_trees.specs.declared.expr.ExprNode.TheVariants as node
use Rattle.source_trees.specs.declared.expr.Expr.TheDeep.{deep-ExprNode}

most_exprs : (xs : List Expr) → most (λ x. expr_size x + 1) xs ≤ exprs_size (exprs_of xs)
most_exprs [] = omega arith
most_exprs (x ∷ xs) = omega (arith, most_exprs xs)

most_stmts : (xs : List Stmt) → most (λ x. max (expr_size x.value + 1) 0) xs ≤ stmts_size (stmts_of xs)
most_stmts [] = omega arith
most_stmts (x ∷ xs) = omega (arith, most_stmts xs)

most_arms : (xs : List Arm) → most (λ x. max (expr_size x.body + 1) 0) xs ≤ arms_size (arms_of xs)
most_arms [] = omega arith
most_arms (x ∷ xs) = omega (arith, most_arms xs)

most_fields : (xs : List FieldExpr) → most (λ x. max (expr_size x.value + 1) 0) xs ≤ field_exprs_size (field_exprs_of xs)
most_fields [] = omega arith
most_fields (x ∷ xs) = omega (arith, most_fields xs)

pub falls : (s : Span) (n : ExprNode) → max (deep-ExprNode n) 0 ≤ expr_size (expr_of s n)
falls s (node.Int a0 a1) = omega arith
falls s (node.Truth a0) = omega arith
falls s node.Receiver = omega arith
falls s (node.Path a0) = omega arith
falls s (node.Literal a0 a1) = omega (arith, most_fields a1.items)
falls s (node.Tuple a0) = omega (arith, most_exprs a0.items)
falls s (node.Block a0) = omega (arith, most_stmts a0.items)
falls s (node.BlockWith a0 a1) = omega (arith, most_stmts a0.items)
falls s (node.If a0 a1 a2) = omega arith
falls s (node.IfElse a0 a1 a2 a3) = omega arith
falls s (node.Match a0 a1) = omega (arith, most_arms a1.items)
falls s (node.While a0 a1 a2) = omega arith
falls s (node.Loop a0) = omega arith
falls s (node.Attributed a0 a1) = omega arith
falls s (node.Closure a0 a1 a2 a3 a4) = omega arith
falls s node.Return = omega arith
falls s (node.ReturnWith a0) = omega arith
falls s node.Break = omega arith
falls s node.Continue = omega arith
falls s (node.Panic a0 a1) = omega arith
falls s (node.Ghost a0 a1) = omega arith
falls s (node.Assign a0 a1) = omega arith
falls s (node.Update a0 a1 a2 a3) = omega arith
falls s (node.Lazy a0 a1 a2) = omega arith
falls s (node.Binary a0 a1 a2 a3) = omega arith
falls s (node.Cast a0 a1) = omega arith
falls s (node.Unary a0 a1 a2) = omega arith
falls s (node.Borrow a0 a1) = omega arith
falls s (node.Field a0 a1 a2) = omega arith
falls s (node.Part a0 a1) = omega arith
falls s (node.Method a0 a1 a2 a3) = omega (arith, most_exprs a3.items)
falls s (node.Call a0 a1) = omega (arith, most_exprs a1.items)
