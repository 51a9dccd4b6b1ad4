-- The first function or expression of a program that does not run yet, since it is not plain: in source order, where a function stands at its name, before
-- its body, and an expression stands behind its parts.
use Rattle.std.specs.Prelude.{Bool, true, false, ◌&&◌, not, List, [], ◌∷◌, Option, Some, None}
use Rattle.text_core.specs.declared.span.Span.{Span}
use Rattle.logic_term.specs.declared.declaration.AdtDecl.{AdtDecl}
use Rattle.type_check.specs.declared.program.TypedFunction.{TypedFunction}
use Rattle.type_check.specs.declared.program.TypedProgram.{TypedProgram}
use Rattle.type_check.specs.TypedExpr.{TypedExpr, TypedStmts, TypedExprs, integer, truth, variable, negative, denied, cast, binary, lazy, assign, update, call, make, part, block, branch, choice}
use Rattle.type_check.specs.TypedExpr.{matched, repeat, panics, returned, endless, until_break, break_off, go_on, done, last, leaving, bind, run, none, more, TypedArms, no_arms, with_arm}
use Rattle.type_check.specs.TypedExprView.{ty_of, span_of}
use Rattle.runnable.specs.Runs.{runs, all_run, is_part}

-- the first of two places
abbrev pub earlier : Option Span → Option Span → Option Span
earlier (Some s) m = Some s
earlier None m = m

-- this place, where something does not run
abbrev pub unless : Bool → Span → Option Span
unless true s = None
unless false s = Some s

-- whether an expression runs where its parts do: its type does, and it assigns to no part of a value, and matches none
abbrev pub runs_here : List AdtDecl → TypedExpr → Bool
runs_here ds (assign t s a e) = not (is_part a) && runs ds t
runs_here ds (update t s op a e) = not (is_part a) && runs ds t
runs_here ds (matched t s e as') = not (is_part e) && runs ds t
runs_here ds e = runs ds (ty_of e)

abbrev pub own_place : List AdtDecl → TypedExpr → Option Span
own_place ds e = unless (runs_here ds e) (span_of e)

abbrev mutual
  pub unrun_in : List AdtDecl → TypedExpr → Option Span
  unrun_in ds (integer t s z k) = unless (runs ds t) s
  unrun_in ds (truth t s b) = unless (runs ds t) s
  unrun_in ds (variable t s x) = unless (runs ds t) s
  unrun_in ds (negative t s e) = earlier (unrun_in ds e) (unless (runs ds t) s)
  unrun_in ds (denied t s e) = earlier (unrun_in ds e) (unless (runs ds t) s)
  unrun_in ds (cast t s e) = earlier (unrun_in ds e) (unless (runs ds t) s)
  unrun_in ds (binary t s op a b) = earlier (unrun_in ds a) (earlier (unrun_in ds b) (unless (runs ds t) s))
  unrun_in ds (lazy t s op a b) = earlier (unrun_in ds a) (earlier (unrun_in ds b) (unless (runs ds t) s))
  unrun_in ds (assign t s a e) = earlier (unrun_in ds a) (earlier (unrun_in ds e) (unless (not (is_part a) && runs ds t) s))
  unrun_in ds (update t s op a e) = earlier (unrun_in ds a) (earlier (unrun_in ds e) (unless (not (is_part a) && runs ds t) s))
  unrun_in ds (call t s f es) = earlier (unrun_among ds es) (unless (runs ds t) s)
  unrun_in ds (make t s c es) = earlier (unrun_among ds es) (unless (runs ds t) s)
  unrun_in ds (part t s e n) = earlier (unrun_in ds e) (unless (runs ds t) s)
  unrun_in ds (block t s ss) = earlier (unrun_in_statements ds ss) (unless (runs ds t) s)
  unrun_in ds (branch t s c a) = earlier (unrun_in ds c) (earlier (unrun_in ds a) (unless (runs ds t) s))
  unrun_in ds (choice t s c a b) = earlier (unrun_in ds c) (earlier (unrun_in ds a) (earlier (unrun_in ds b) (unless (runs ds t) s)))
  unrun_in ds (matched t s e as') = earlier (unrun_in ds e) (earlier (unrun_in_arms ds as') (unless (not (is_part e) && runs ds t) s))
  unrun_in ds (repeat t s is c b) = earlier (unrun_in ds c) (earlier (unrun_in ds b) (unless (runs ds t) s))
  unrun_in ds (panics t s k) = unless (runs ds t) s
  unrun_in ds (returned t s e) = earlier (unrun_in ds e) (unless (runs ds t) s)
  unrun_in ds (endless t s is b) = earlier (unrun_in ds b) (unless (runs ds t) s)
  unrun_in ds (until_break t s is b) = earlier (unrun_in ds b) (unless (runs ds t) s)
  unrun_in ds (break_off t s) = unless (runs ds t) s
  unrun_in ds (go_on t s) = unless (runs ds t) s

  pub unrun_in_statements : List AdtDecl → TypedStmts → Option Span
  unrun_in_statements ds done = None
  unrun_in_statements ds (last e) = unrun_in ds e
  unrun_in_statements ds (leaving e) = unrun_in ds e
  unrun_in_statements ds (bind e ss) = earlier (unrun_in ds e) (unrun_in_statements ds ss)
  unrun_in_statements ds (run e ss) = earlier (unrun_in ds e) (unrun_in_statements ds ss)

  pub unrun_among : List AdtDecl → TypedExprs → Option Span
  unrun_among ds none = None
  unrun_among ds (more e es) = earlier (unrun_in ds e) (unrun_among ds es)

  pub unrun_in_arms : List AdtDecl → TypedArms → Option Span
  unrun_in_arms ds no_arms = None
  unrun_in_arms ds (with_arm p xs e as') = earlier (unrun_in ds e) (unrun_in_arms ds as')

-- a function at its name, where the type of a parameter or of its answer is another
abbrev pub unrun_function : List AdtDecl → TypedFunction → Option Span
unrun_function ds f = earlier (unless (all_run ds f.signature.params && runs ds f.signature.answer) f.span) (unrun_in ds f.body)

abbrev pub unrun_of : List AdtDecl → List TypedFunction → Option Span
unrun_of ds [] = None
unrun_of ds (f ∷ fs) = earlier (unrun_function ds f) (unrun_of ds fs)

abbrev pub first_unrun : List AdtDecl → TypedProgram → Option Span
first_unrun ds p = unrun_of ds p.functions
