-- The parts of an expression are smaller than it.
use Rattle.std.specs.Prelude.{◌≡◌, ℕ, zero, suc, ◌+◌, ◌≤◌, ◌<◌, length, get_or, max, Bool, true, false, List, [], ◌∷◌}
use Rattle.std.proofs.Common.{arith, refl}
use denote.Param.Weighed.{most}
use Rattle.text_core.specs.declared.span.Span.{Span}
use Rattle.logic_term.specs.Ty.{Ty}
use Rattle.type_check.specs.TypedExpr.{TypedExpr, TypedStmts, done, last, leaving}
use Rattle.type_check.specs.TypedExprView.{typed_of, typed_size, stmts_size, exprs_size, arms_size, stmt_of, stmts_of, exprs_of, arms_of}
use Rattle.type_check.specs.declared.typed.TypedArm.{TypedArm}
use Rattle.type_check.specs.declared.typed.TypedStmt.{TypedStmt}
use Rattle.type_check.specs.declared.typed.TypedNode.{TypedNode}
use Rattle.type_check.specs.declared.typed.TypedNode.TheVariants as node
use Rattle.type_check.specs.declared.typed.TypedExpr.TheDeep.{deep-TypedNode}

stmt_size : (b : Bool) (e : TypedExpr) (ss : TypedStmts) → stmts_size (stmt_of b e ss) ≡ suc (max (typed_size e) (stmts_size ss))
stmt_size true e ss = refl
stmt_size false e ss = refl

most_exprs : (es : List TypedExpr) → most (λ e. typed_size e + 1) es ≤ exprs_size (exprs_of es)
most_exprs [] = omega arith
most_exprs (e ∷ es) = omega (arith, most_exprs es)

smaller : (es : List TypedExpr) (i : ℕ) (d : TypedExpr) → i < length es → typed_size (get_or es i d) < exprs_size (exprs_of es)
smaller [] i d h = absurd (omega arith)
smaller (e ∷ es) zero d h = omega arith
smaller (e ∷ es) (suc i) d h = omega (arith, smaller es i d (omega arith))

pub each_smaller : (es : List TypedExpr) (i : ℕ) (e : TypedExpr) → e ≡ get_or es i e → i < length es → typed_size e < exprs_size (exprs_of es)
each_smaller es i e q h = rw q (smaller es i e h)

most_stmts : (ss : List TypedStmt) (end : TypedStmts) → max (most (λ s. max (typed_size s.value + 1) 0) ss) (stmts_size end) ≤ stmts_size (stmts_of ss end)
most_stmts [] end = omega arith
most_stmts (s ∷ ss) end = omega (arith, most_stmts ss end, stmt_size s.binds s.value (stmts_of ss end))

most_arms : (as' : List TypedArm) → most (λ a. max (typed_size a.body + 1) 0) as' ≤ arms_size (arms_of as')
most_arms [] = omega arith
most_arms (a ∷ as') = omega (arith, most_arms as')

pub falls : (t : Ty) (s : Span) (n : TypedNode) → max (deep-TypedNode n) 0 ≤ typed_size (typed_of t s n)
falls t s (node.Int a0 a1) = omega arith
falls t s (node.Truth a0) = omega arith
falls t s (node.Variable a0) = omega arith
falls t s (node.Neg a0) = omega arith
falls t s (node.Not a0) = omega arith
falls t s (node.Cast a0) = omega arith
falls t s (node.Binary a0 a1 a2) = omega arith
falls t s (node.Lazy a0 a1 a2) = omega arith
falls t s (node.Assign a0 a1) = omega arith
falls t s (node.Update a0 a1 a2) = omega arith
falls t s (node.Call a0 a1) = omega (arith, most_exprs a1.items)
falls t s (node.Make a0 a1) = omega (arith, most_exprs a1.items)
falls t s (node.Part a0 a1) = omega arith
falls t s (node.Block ss) = omega (arith, most_stmts ss.items done)
falls t s (node.BlockWith ss e) = omega (arith, most_stmts ss.items (last e))
falls t s (node.BlockLeaving ss e) = omega (arith, most_stmts ss.items (leaving e))
falls t s (node.If a0 a1) = omega arith
falls t s (node.IfElse a0 a1 a2) = omega arith
falls t s (node.Match a0 a1) = omega (arith, most_arms a1.items)
falls t s (node.While a0 a1 a2) = omega arith
falls t s (node.Panic a0) = omega arith
falls t s (node.Return a0) = omega arith
falls t s (node.Loop a0 a1) = omega arith
falls t s (node.LoopUntilBreak a0 a1) = omega arith
falls t s node.Break = omega arith
falls t s node.Continue = omega arith
