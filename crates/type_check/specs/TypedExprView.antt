-- The expressions that nodes stand for, how deep expressions are, their types and spans, and the patterns of arms.
use Rattle.std.specs.Prelude.{ℕ, suc, max, Bool, true, false, List, [], ◌∷◌}
use Rattle.text_core.specs.declared.span.Span.{Span}
use Rattle.logic_term.specs.Pattern.{Pat}
use Rattle.logic_term.specs.Ty.{Ty}
use Rattle.type_check.specs.TypedExpr.{TypedExpr, integer, truth, variable, negative, denied, cast, binary, lazy, assign, update, call, make, part, block, branch, choice, matched, repeat, panics, returned, endless, until_break, break_off, go_on, TypedStmts, done, last, leaving, bind, run, TypedExprs, none, more, TypedArms, no_arms, with_arm}
use Rattle.type_check.specs.declared.typed.TypedArm.{TypedArm}
use Rattle.type_check.specs.declared.typed.TypedStmt.{TypedStmt}
use Rattle.type_check.specs.declared.typed.TypedNode.{TypedNode}
use Rattle.type_check.specs.declared.typed.TypedNode.TheVariants as node

abbrev pub stmt_of : Bool → TypedExpr → TypedStmts → TypedStmts
stmt_of true e ss = bind e ss
stmt_of false e ss = run e ss

-- these statements, and then the end
abbrev pub stmts_of : List TypedStmt → TypedStmts → TypedStmts
stmts_of [] end = end
stmts_of (s ∷ ss) end = stmt_of s.binds s.value (stmts_of ss end)

abbrev pub exprs_of : List TypedExpr → TypedExprs
exprs_of [] = none
exprs_of (e ∷ es) = more e (exprs_of es)

abbrev pub arms_of : List TypedArm → TypedArms
arms_of [] = no_arms
arms_of (a ∷ as') = with_arm a.pattern a.names.items a.body (arms_of as')

abbrev pub typed_of : Ty → Span → TypedNode → TypedExpr
typed_of t s (node.Int a0 a1) = integer t s a0 a1
typed_of t s (node.Truth a0) = truth t s a0
typed_of t s (node.Variable a0) = variable t s a0
typed_of t s (node.Neg a0) = negative t s a0
typed_of t s (node.Not a0) = denied t s a0
typed_of t s (node.Cast a0) = cast t s a0
typed_of t s (node.Binary a0 a1 a2) = binary t s a0 a1 a2
typed_of t s (node.Lazy a0 a1 a2) = lazy t s a0 a1 a2
typed_of t s (node.Assign a0 a1) = assign t s a0 a1
typed_of t s (node.Update a0 a1 a2) = update t s a0 a1 a2
typed_of t s (node.Call a0 a1) = call t s a0 (exprs_of a1.items)
typed_of t s (node.Make a0 a1) = make t s a0 (exprs_of a1.items)
typed_of t s (node.Part a0 a1) = part t s a0 a1
typed_of t s (node.Block ss) = block t s (stmts_of ss.items done)
typed_of t s (node.BlockWith ss e) = block t s (stmts_of ss.items (last e))
typed_of t s (node.BlockLeaving ss e) = block t s (stmts_of ss.items (leaving e))
typed_of t s (node.If a0 a1) = branch t s a0 a1
typed_of t s (node.IfElse a0 a1 a2) = choice t s a0 a1 a2
typed_of t s (node.Match a0 a1) = matched t s a0 (arms_of a1.items)
typed_of t s (node.While a0 a1 a2) = repeat t s a0.items a1 a2
typed_of t s (node.Panic a0) = panics t s a0
typed_of t s (node.Return a0) = returned t s a0
typed_of t s (node.Loop a0 a1) = endless t s a0.items a1
typed_of t s (node.LoopUntilBreak a0 a1) = until_break t s a0.items a1
typed_of t s node.Break = break_off t s
typed_of t s node.Continue = go_on t s

abbrev mutual
  pub typed_size : TypedExpr → ℕ
  typed_size (integer a0 a1 a2 a3) = 1
  typed_size (truth a0 a1 a2) = 1
  typed_size (variable a0 a1 a2) = 1
  typed_size (negative a0 a1 a2) = suc (typed_size a2)
  typed_size (denied a0 a1 a2) = suc (typed_size a2)
  typed_size (cast a0 a1 a2) = suc (typed_size a2)
  typed_size (binary a0 a1 a2 a3 a4) = suc (max (typed_size a3) (typed_size a4))
  typed_size (lazy a0 a1 a2 a3 a4) = suc (max (typed_size a3) (typed_size a4))
  typed_size (assign a0 a1 a2 a3) = suc (max (typed_size a2) (typed_size a3))
  typed_size (update a0 a1 a2 a3 a4) = suc (max (typed_size a3) (typed_size a4))
  typed_size (call a0 a1 a2 a3) = suc (exprs_size a3)
  typed_size (make a0 a1 a2 a3) = suc (exprs_size a3)
  typed_size (part a0 a1 a2 a3) = suc (typed_size a2)
  typed_size (block a0 a1 a2) = suc (stmts_size a2)
  typed_size (branch a0 a1 a2 a3) = suc (max (typed_size a2) (typed_size a3))
  typed_size (choice a0 a1 a2 a3 a4) = suc (max (typed_size a2) (max (typed_size a3) (typed_size a4)))
  typed_size (matched a0 a1 a2 a3) = suc (max (typed_size a2) (arms_size a3))
  typed_size (repeat a0 a1 a2 a3 a4) = suc (max (typed_size a3) (typed_size a4))
  typed_size (panics a0 a1 a2) = 1
  typed_size (returned a0 a1 a2) = suc (typed_size a2)
  typed_size (endless a0 a1 a2 a3) = suc (typed_size a3)
  typed_size (until_break a0 a1 a2 a3) = suc (typed_size a3)
  typed_size (break_off a0 a1) = 1
  typed_size (go_on a0 a1) = 1

  pub stmts_size : TypedStmts → ℕ
  stmts_size done = 1
  stmts_size (last a0) = suc (typed_size a0)
  stmts_size (leaving a0) = suc (typed_size a0)
  stmts_size (bind a0 a1) = suc (max (typed_size a0) (stmts_size a1))
  stmts_size (run a0 a1) = suc (max (typed_size a0) (stmts_size a1))

  pub exprs_size : TypedExprs → ℕ
  exprs_size none = 1
  exprs_size (more a0 a1) = suc (max (typed_size a0) (exprs_size a1))

  pub arms_size : TypedArms → ℕ
  arms_size no_arms = 1
  arms_size (with_arm a0 a1 a2 a3) = suc (max (typed_size a2) (arms_size a3))

abbrev pub ty_of : TypedExpr → Ty
ty_of (integer t s a0 a1) = t
ty_of (truth t s a0) = t
ty_of (variable t s a0) = t
ty_of (negative t s a0) = t
ty_of (denied t s a0) = t
ty_of (cast t s a0) = t
ty_of (binary t s a0 a1 a2) = t
ty_of (lazy t s a0 a1 a2) = t
ty_of (assign t s a0 a1) = t
ty_of (update t s a0 a1 a2) = t
ty_of (call t s a0 a1) = t
ty_of (make t s a0 a1) = t
ty_of (part t s a0 a1) = t
ty_of (block t s a0) = t
ty_of (branch t s a0 a1) = t
ty_of (choice t s a0 a1 a2) = t
ty_of (matched t s a0 a1) = t
ty_of (repeat t s a0 a1 a2) = t
ty_of (panics t s a0) = t
ty_of (returned t s a0) = t
ty_of (endless t s a0 a1) = t
ty_of (until_break t s a0 a1) = t
ty_of (break_off t s) = t
ty_of (go_on t s) = t

abbrev pub span_of : TypedExpr → Span
span_of (integer t s a0 a1) = s
span_of (truth t s a0) = s
span_of (variable t s a0) = s
span_of (negative t s a0) = s
span_of (denied t s a0) = s
span_of (cast t s a0) = s
span_of (binary t s a0 a1 a2) = s
span_of (lazy t s a0 a1 a2) = s
span_of (assign t s a0 a1) = s
span_of (update t s a0 a1 a2) = s
span_of (call t s a0 a1) = s
span_of (make t s a0 a1) = s
span_of (part t s a0 a1) = s
span_of (block t s a0) = s
span_of (branch t s a0 a1) = s
span_of (choice t s a0 a1 a2) = s
span_of (matched t s a0 a1) = s
span_of (repeat t s a0 a1 a2) = s
span_of (panics t s a0) = s
span_of (returned t s a0) = s
span_of (endless t s a0 a1) = s
span_of (until_break t s a0 a1) = s
span_of (break_off t s) = s
span_of (go_on t s) = s

-- in their order
abbrev pub patterns_of : TypedArms → List Pat
patterns_of no_arms = []
patterns_of (with_arm p xs e as') = p ∷ patterns_of as'
