-- The parts of lists of expressions and statements are smaller than these, and what is seen of a node.
use Rattle.std.proofs.Common.{◌≡◌, ℕ, zero, suc, ◌<◌, List, [], ◌∷◌, length, get_or, arith, ap, sym, ◌∙◌, Option, Some, None}
use Rattle.text_core.specs.declared.span.Span.{Span}
use Rattle.source_trees.specs.declared.expr.ExprNode.{ExprNode}
use Rattle.source_trees.specs.declared.expr.ExprNode.TheVariants as node
use Rattle.source_trees.specs.declared.expr.Stmt.{Stmt}
use Rattle.source_trees.specs.Expr.{Expr, repeat, endless}
use Rattle.source_trees.specs.Pat.{Pat}
use Rattle.type_check.proofs.FieldParts.{field_smaller}
use Rattle.source_trees.specs.ExprView.{expr_of, expr_size, exprs_size, stmts_size, exprs_of, stmts_of}

smaller : (es : List Expr) (i : ℕ) (d : Expr) → i < length es → expr_size (get_or es i d) < exprs_size (exprs_of es)
smaller [] i d h = absurd (omega arith)
smaller (e ∷ es) zero d h = omega arith
smaller (e ∷ es) (suc i) d h = omega (arith, smaller es i d (omega arith))

pub each_smaller : (es : List Expr) (i : ℕ) (e : Expr) → e ≡ get_or es i e → i < length es → expr_size e < exprs_size (exprs_of es)
each_smaller es i e q h = rw q (smaller es i e h)

value_smaller : (ss : List Stmt) (i : ℕ) (d : Stmt) → i < length ss → expr_size (get_or ss i d).value < stmts_size (stmts_of ss)
value_smaller [] i d h = absurd (omega arith)
value_smaller (s ∷ ss) zero d h = omega arith
value_smaller (s ∷ ss) (suc i) d h = omega (arith, value_smaller ss i d (omega arith))

pub stmt_smaller : (ss : List Stmt) (i : ℕ) (s : Stmt) → s ≡ get_or ss i s → i < length ss → expr_size s.value < stmts_size (stmts_of ss)
stmt_smaller ss i s q h = let f : Stmt → ℕ = λ s. expr_size s.value in omega (arith, ap f q, value_smaller ss i s h)

pub ruleset parts = (each_smaller, stmt_smaller, field_smaller)

-- ---- loops

-- an expression that is seen to be a loop without a pattern
pub loop_seen : (s : Span) (n m : ExprNode) (e : Expr) (o : Option Pat) (c b : Expr) → expr_of s n ≡ e → m ≡ n → m ≡ node.While o c b → o ≡ None → e ≡ repeat s None c b
loop_seen s n m e o c b v d is q = sym v ∙ ap (expr_of s) (sym d ∙ is ∙ ap (λ o. node.While o c b) q)

-- the same with a pattern
pub loop_by_seen : (s : Span) (n m : ExprNode) (e : Expr) (o : Option Pat) (p : Pat) (c b : Expr) → expr_of s n ≡ e → m ≡ n → m ≡ node.While o c b → o ≡ Some p → e ≡ repeat s (Some p) c b
loop_by_seen s n m e o p c b v d is q = sym v ∙ ap (expr_of s) (sym d ∙ is ∙ ap (λ o. node.While o c b) q)

-- the same of `loop`
pub endless_seen : (s : Span) (n m : ExprNode) (e b : Expr) → expr_of s n ≡ e → m ≡ n → m ≡ node.Loop b → e ≡ endless s b
endless_seen s n m e b v d is = sym v ∙ ap (expr_of s) (sym d ∙ is)
