-- The parts of an expression that are dropped with it are smaller than it.
use Rattle.std.proofs.Common.{◌≡◌, ◌∙◌, ℕ, ◌+◌, ◌*◌, ◌≤◌, max, List, [], ◌∷◌, Vec, Global, refl, arith, ap, sym, subst}
use denote.Param.Weighed.{most, w_this}
use Rattle.text_core.specs.declared.span.Span.{Span}
use Rattle.source_trees.specs.declared.expr.Arm.{Arm}
use Rattle.source_trees.specs.declared.expr.FieldExpr.{FieldExpr}
use Rattle.source_trees.specs.declared.expr.Stmt.{Stmt}
use Rattle.source_trees.specs.declared.expr.ExprNode.{ExprNode}
use Rattle.source_trees.specs.declared.expr.ExprNode.TheVariants as node
use Rattle.source_trees.specs.declared.expr.Expr.TheDeep.{size-Arm, size-Expr, size-FieldExpr, size-Stmt}
use Rattle.source_trees.specs.declared.path.Path.{Path}
use Rattle.source_trees.specs.declared.path.Segment.{Segment}
use Rattle.source_trees.specs.TypeTree.{TypeTree}
use Rattle.source_trees.specs.Expr.{Expr}
use Rattle.source_trees.specs.ExprView.{arms_of, arms_size, expr_of, expr_size, exprs_of, exprs_size, field_exprs_of, field_exprs_size, stmts_of, stmts_size}

expr_is : (x : Expr) → w_this.weight Expr size-Expr x ≡ 3 * (expr_size x + 1) + 0
expr_is x = refl

most_exprs : (xs : List Expr) → most (w_this.weight Expr size-Expr) xs ≤ 3 * exprs_size (exprs_of xs)
most_exprs [] = omega arith
most_exprs (x ∷ xs) = omega (arith, expr_is x, most_exprs xs)

stmt_is : (x : Stmt) → w_this.weight Stmt size-Stmt x ≡ 3 * max (expr_size x.value + 1) 0 + 1
stmt_is x = refl

most_stmts : (xs : List Stmt) → most (w_this.weight Stmt size-Stmt) xs ≤ 3 * stmts_size (stmts_of xs) + 1
most_stmts [] = omega arith
most_stmts (x ∷ xs) = omega (arith, stmt_is x, most_stmts xs)

arm_is : (x : Arm) → w_this.weight Arm size-Arm x ≡ 3 * max (expr_size x.body + 1) 0 + 1
arm_is x = refl

most_arms : (xs : List Arm) → most (w_this.weight Arm size-Arm) xs ≤ 3 * arms_size (arms_of xs) + 1
most_arms [] = omega arith
most_arms (x ∷ xs) = omega (arith, arm_is x, most_arms xs)

field_is : (x : FieldExpr) → w_this.weight FieldExpr size-FieldExpr x ≡ 3 * max (expr_size x.value + 1) 0 + 1
field_is x = refl

most_fields : (xs : List FieldExpr) → most (w_this.weight FieldExpr size-FieldExpr) xs ≤ 3 * field_exprs_size (field_exprs_of xs) + 1
most_fields [] = omega arith
most_fields (x ∷ xs) = omega (arith, field_is x, most_fields xs)

-- what it is seen to be at its top
seen : (e : Expr) (s : Span) (n m k : ExprNode) → expr_of s n ≡ e → m ≡ n → m ≡ k → expr_of s k ≡ e
seen e s n m k v d is = ap (expr_of s) (sym is ∙ d) ∙ v

pub method_falls : (e : Expr) (s : Span) (n m : ExprNode) (l : Expr) (f : Segment) (us : List TypeTree) (xs : Vec Expr Global) → expr_of s n ≡ e → m ≡ n → m ≡ node.Method l f us xs → most (w_this.weight Expr size-Expr) xs.items + 3 ≤ 3 * (expr_size e + 1)
method_falls e s n m l f us xs v d is =
    subst (λ x. most (w_this.weight Expr size-Expr) xs.items + 3 ≤ 3 * (expr_size x + 1)) (seen e s n m (node.Method l f us xs) v d is)
    (let h : most (w_this.weight Expr size-Expr) xs.items ≤ 3 * exprs_size (exprs_of xs.items) = most_exprs xs.items in omega (arith, h))

pub call_falls : (e : Expr) (s : Span) (n m : ExprNode) (l : Expr) (xs : Vec Expr Global) → expr_of s n ≡ e → m ≡ n → m ≡ node.Call l xs → most (w_this.weight Expr size-Expr) xs.items + 3 ≤ 3 * (expr_size e + 1)
call_falls e s n m l xs v d is =
    subst (λ x. most (w_this.weight Expr size-Expr) xs.items + 3 ≤ 3 * (expr_size x + 1)) (seen e s n m (node.Call l xs) v d is)
    (let h : most (w_this.weight Expr size-Expr) xs.items ≤ 3 * exprs_size (exprs_of xs.items) = most_exprs xs.items in omega (arith, h))

pub literal_falls : (e : Expr) (s : Span) (n m : ExprNode) (p : Path) (fs : Vec FieldExpr Global) → expr_of s n ≡ e → m ≡ n → m ≡ node.Literal p fs → most (w_this.weight FieldExpr size-FieldExpr) fs.items + 3 ≤ 3 * (expr_size e + 1)
literal_falls e s n m p fs v d is =
    subst (λ x. most (w_this.weight FieldExpr size-FieldExpr) fs.items + 3 ≤ 3 * (expr_size x + 1)) (seen e s n m (node.Literal p fs) v d is)
    (let h : most (w_this.weight FieldExpr size-FieldExpr) fs.items ≤ 3 * field_exprs_size (field_exprs_of fs.items) + 1 = most_fields fs.items in omega (arith, h))

pub tuple_falls : (e : Expr) (s : Span) (n m : ExprNode) (xs : Vec Expr Global) → expr_of s n ≡ e → m ≡ n → m ≡ node.Tuple xs → most (w_this.weight Expr size-Expr) xs.items + 3 ≤ 3 * (expr_size e + 1)
tuple_falls e s n m xs v d is =
    subst (λ x. most (w_this.weight Expr size-Expr) xs.items + 3 ≤ 3 * (expr_size x + 1)) (seen e s n m (node.Tuple xs) v d is)
    (let h : most (w_this.weight Expr size-Expr) xs.items ≤ 3 * exprs_size (exprs_of xs.items) = most_exprs xs.items in omega (arith, h))

pub block_falls : (e : Expr) (s : Span) (n m : ExprNode) (ss : Vec Stmt Global) → expr_of s n ≡ e → m ≡ n → m ≡ node.Block ss → most (w_this.weight Stmt size-Stmt) ss.items + 3 ≤ 3 * (expr_size e + 1)
block_falls e s n m ss v d is =
    subst (λ x. most (w_this.weight Stmt size-Stmt) ss.items + 3 ≤ 3 * (expr_size x + 1)) (seen e s n m (node.Block ss) v d is)
    (let h : most (w_this.weight Stmt size-Stmt) ss.items ≤ 3 * stmts_size (stmts_of ss.items) + 1 = most_stmts ss.items in omega (arith, h))

pub block_with_falls : (e : Expr) (s : Span) (n m : ExprNode) (ss : Vec Stmt Global) (l : Expr) → expr_of s n ≡ e → m ≡ n → m ≡ node.BlockWith ss l → most (w_this.weight Stmt size-Stmt) ss.items + 3 ≤ 3 * (expr_size e + 1)
block_with_falls e s n m ss l v d is =
    subst (λ x. most (w_this.weight Stmt size-Stmt) ss.items + 3 ≤ 3 * (expr_size x + 1)) (seen e s n m (node.BlockWith ss l) v d is)
    (let h : most (w_this.weight Stmt size-Stmt) ss.items ≤ 3 * stmts_size (stmts_of ss.items) + 1 = most_stmts ss.items in omega (arith, h))

pub match_falls : (e : Expr) (s : Span) (n m : ExprNode) (l : Expr) (as' : Vec Arm Global) → expr_of s n ≡ e → m ≡ n → m ≡ node.Match l as' → most (w_this.weight Arm size-Arm) as'.items + 3 ≤ 3 * (expr_size e + 1)
match_falls e s n m l as' v d is =
    subst (λ x. most (w_this.weight Arm size-Arm) as'.items + 3 ≤ 3 * (expr_size x + 1)) (seen e s n m (node.Match l as') v d is)
    (let h : most (w_this.weight Arm size-Arm) as'.items ≤ 3 * arms_size (arms_of as'.items) + 1 = most_arms as'.items in omega (arith, h))
