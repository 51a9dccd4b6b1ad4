-- The parts of an expression that are dropped with it are smaller than it.
use Rattle.std.proofs.Common.{◌≡◌, ◌∙◌, ℕ, suc, ◌+◌, ◌*◌, ◌≤◌, max, Bool, true, false, List, [], ◌∷◌, refl, arith, ap, sym, subst}
use denote.Param.Weighed.{most, w_this}
use Rattle.std.proofs.Common.{Vec, Global}
use Rattle.text_core.specs.declared.span.Span.{Span}
use Rattle.logic_term.specs.declared.kinds.Ctor.{Ctor}
use Rattle.logic_term.specs.Ty.{Ty}
use Rattle.type_check.specs.declared.typed.TypedNode.{TypedNode}
use Rattle.type_check.specs.declared.typed.TypedNode.TheVariants as node
use Rattle.type_check.specs.declared.typed.TypedArm.{TypedArm}
use Rattle.type_check.specs.declared.typed.TypedStmt.{TypedStmt}
use Rattle.type_check.specs.declared.typed.TypedExpr.TheDeep.{size-TypedArm, size-TypedExpr, size-TypedStmt}
use Rattle.type_check.specs.TypedExpr.{TypedExpr, TypedStmts, done, last, leaving}
use Rattle.type_check.specs.TypedExprView.{arms_of, arms_size, exprs_of, exprs_size, stmt_of, stmts_of, stmts_size, typed_of, typed_size}

stmt_size : (b : Bool) (e : TypedExpr) (ss : TypedStmts) → stmts_size (stmt_of b e ss) ≡ suc (max (typed_size e) (stmts_size ss))
stmt_size true e ss = refl
stmt_size false e ss = refl

expr_is : (e : TypedExpr) → w_this.weight TypedExpr size-TypedExpr e ≡ 3 * (typed_size e + 1) + 0
expr_is e = refl

most_exprs : (es : List TypedExpr) → most (w_this.weight TypedExpr size-TypedExpr) es ≤ 3 * exprs_size (exprs_of es)
most_exprs [] = omega arith
most_exprs (e ∷ es) = omega (arith, expr_is e, most_exprs es)

stmt_is : (s : TypedStmt) → w_this.weight TypedStmt size-TypedStmt s ≡ 3 * max (typed_size s.value + 1) 0 + 1
stmt_is s = refl

most_stmts : (ss : List TypedStmt) (end : TypedStmts) → most (w_this.weight TypedStmt size-TypedStmt) ss ≤ 3 * stmts_size (stmts_of ss end) + 1
most_stmts [] end = omega arith
most_stmts (s ∷ ss) end = omega (arith, stmt_is s, most_stmts ss end, stmt_size s.binds s.value (stmts_of ss end))

arm_is : (a : TypedArm) → w_this.weight TypedArm size-TypedArm a ≡ 3 * max (typed_size a.body + 1) 0 + 1
arm_is a = refl

most_arms : (as' : List TypedArm) → most (w_this.weight TypedArm size-TypedArm) as' ≤ 3 * arms_size (arms_of as') + 1
most_arms [] = omega arith
most_arms (a ∷ as') = omega (arith, arm_is a, most_arms as')

-- what the expression is seen to be at its top
seen : (e : TypedExpr) (t : Ty) (s : Span) (n m k : TypedNode) → typed_of t s n ≡ e → m ≡ n → m ≡ k → typed_of t s k ≡ e
seen e t s n m k v d is = ap (typed_of t s) (sym is ∙ d) ∙ v

pub args_fall : (e : TypedExpr) (t : Ty) (s : Span) (n m : TypedNode) (f : ℕ) (es : Vec TypedExpr Global) → typed_of t s n ≡ e → m ≡ n → m ≡ node.Call f es
    → most (w_this.weight TypedExpr size-TypedExpr) es.items + 3 ≤ 3 * (typed_size e + 1)
args_fall e t s n m f es v d is =
    subst (λ x. most (w_this.weight TypedExpr size-TypedExpr) es.items + 3 ≤ 3 * (typed_size x + 1)) (seen e t s n m (node.Call f es) v d is)
    (let h : most (w_this.weight TypedExpr size-TypedExpr) es.items ≤ 3 * exprs_size (exprs_of es.items) = most_exprs es.items in omega (arith, h))

pub parts_fall : (e : TypedExpr) (t : Ty) (s : Span) (n m : TypedNode) (c : Ctor) (es : Vec TypedExpr Global) → typed_of t s n ≡ e → m ≡ n → m ≡ node.Make c es
    → most (w_this.weight TypedExpr size-TypedExpr) es.items + 3 ≤ 3 * (typed_size e + 1)
parts_fall e t s n m c es v d is =
    subst (λ x. most (w_this.weight TypedExpr size-TypedExpr) es.items + 3 ≤ 3 * (typed_size x + 1)) (seen e t s n m (node.Make c es) v d is)
    (let h : most (w_this.weight TypedExpr size-TypedExpr) es.items ≤ 3 * exprs_size (exprs_of es.items) = most_exprs es.items in omega (arith, h))

pub stmts_fall : (e : TypedExpr) (t : Ty) (s : Span) (n m : TypedNode) (ss : Vec TypedStmt Global) → typed_of t s n ≡ e → m ≡ n → m ≡ node.Block ss
    → most (w_this.weight TypedStmt size-TypedStmt) ss.items + 3 ≤ 3 * (typed_size e + 1)
stmts_fall e t s n m ss v d is =
    subst (λ x. most (w_this.weight TypedStmt size-TypedStmt) ss.items + 3 ≤ 3 * (typed_size x + 1)) (seen e t s n m (node.Block ss) v d is)
    (let h : most (w_this.weight TypedStmt size-TypedStmt) ss.items ≤ 3 * stmts_size (stmts_of ss.items done) + 1 = most_stmts ss.items done in omega (arith, h))

pub stmts_with_fall : (e : TypedExpr) (t : Ty) (s : Span) (n m : TypedNode) (ss : Vec TypedStmt Global) (l : TypedExpr) → typed_of t s n ≡ e → m ≡ n → m ≡ node.BlockWith ss l
    → most (w_this.weight TypedStmt size-TypedStmt) ss.items + 3 ≤ 3 * (typed_size e + 1)
stmts_with_fall e t s n m ss l v d is =
    subst (λ x. most (w_this.weight TypedStmt size-TypedStmt) ss.items + 3 ≤ 3 * (typed_size x + 1)) (seen e t s n m (node.BlockWith ss l) v d is)
    (let h : most (w_this.weight TypedStmt size-TypedStmt) ss.items ≤ 3 * stmts_size (stmts_of ss.items (last l)) + 1 = most_stmts ss.items (last l) in omega (arith, h))

pub stmts_leaving_fall : (e : TypedExpr) (t : Ty) (s : Span) (n m : TypedNode) (ss : Vec TypedStmt Global) (l : TypedExpr) → typed_of t s n ≡ e → m ≡ n → m ≡ node.BlockLeaving ss l
    → most (w_this.weight TypedStmt size-TypedStmt) ss.items + 3 ≤ 3 * (typed_size e + 1)
stmts_leaving_fall e t s n m ss l v d is =
    subst (λ x. most (w_this.weight TypedStmt size-TypedStmt) ss.items + 3 ≤ 3 * (typed_size x + 1)) (seen e t s n m (node.BlockLeaving ss l) v d is)
    (let h : most (w_this.weight TypedStmt size-TypedStmt) ss.items ≤ 3 * stmts_size (stmts_of ss.items (leaving l)) + 1 = most_stmts ss.items (leaving l) in omega (arith, h))

pub arms_fall : (e : TypedExpr) (t : Ty) (s : Span) (n m : TypedNode) (a : TypedExpr) (as' : Vec TypedArm Global) → typed_of t s n ≡ e → m ≡ n → m ≡ node.Match a as'
    → most (w_this.weight TypedArm size-TypedArm) as'.items + 3 ≤ 3 * (typed_size e + 1)
arms_fall e t s n m a as' v d is =
    subst (λ x. most (w_this.weight TypedArm size-TypedArm) as'.items + 3 ≤ 3 * (typed_size x + 1)) (seen e t s n m (node.Match a as') v d is)
    (let h : most (w_this.weight TypedArm size-TypedArm) as'.items ≤ 3 * arms_size (arms_of as'.items) + 1 = most_arms as'.items in omega (arith, h))
