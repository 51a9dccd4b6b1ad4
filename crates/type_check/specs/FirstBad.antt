-- The first formula or match that is refused: in a function its clauses stand before its body, and an expression's parts before it. A flat match, of a value
-- of a scalar type by flat patterns, is lowered, and refused where its patterns do not cover the type; each other match is refused as not built, where all
-- expressions have types.
use Rattle.std.specs.Prelude.{◌&&◌, List, [], ◌∷◌, Option, Some, None, if◌then◌else◌}
use Rattle.text_core.specs.declared.refusal.SourceError.{SourceError}
use Rattle.text_core.specs.declared.span.Span.{Span}
use Rattle.logic_term.specs.Pattern.{Pat}
use Rattle.logic_term.specs.Ty.{Ty}
use Rattle.pat_check.specs.Decision.{Decision}
use Rattle.pat_check.specs.Flat.{all_flat, flat_tree}
use Rattle.type_check.specs.declared.assertion.Assertion.{Assertion}
use Rattle.type_check.specs.declared.assertion.Assertion.TheVariants.{Good, Bad}
use Rattle.type_check.specs.declared.program.TypedClause.{TypedClause}
use Rattle.type_check.specs.declared.program.TypedFunction.{TypedFunction}
use Rattle.type_check.specs.Answers.{or_else, unbuilt, uncovered_match}
use Rattle.type_check.specs.Scalars.{is_scalar}
use Rattle.type_check.specs.TypedExpr.{TypedExpr, TypedStmts, TypedExprs, integer, truth, variable, negative, denied, cast, binary, lazy, assign, update, call, make, part, block, branch, choice, matched, repeat, panics, returned, endless, until_break, break_off, go_on, done, last, leaving, bind, run, none, more, TypedArms, no_arms, with_arm}
use Rattle.type_check.specs.TypedExprView.{patterns_of, ty_of}

abbrev pub bad_of : Assertion → Option SourceError
bad_of (Good s t) = None
bad_of (Bad e) = Some e

abbrev pub bad_among : List Assertion → Option SourceError
bad_among [] = None
bad_among (a ∷ as') = or_else (bad_of a) (bad_among as')

-- where the patterns have no tree
abbrev pub uncovered : Span → Option Decision → Option SourceError
uncovered s None = Some (uncovered_match s)
uncovered s (Some D) = None

-- of a match at s, of a value of type t by these patterns
abbrev pub match_refusal : Span → Ty → List Pat → Option SourceError
match_refusal s t ps = if is_scalar t && all_flat t ps then uncovered s (flat_tree t ps) else Some (unbuilt s)

abbrev mutual
  pub bad_in : TypedExpr → Option SourceError
  bad_in (integer t s z k) = None
  bad_in (truth t s b) = None
  bad_in (variable t s x) = None
  bad_in (negative t s e) = bad_in e
  bad_in (denied t s e) = bad_in e
  bad_in (cast t s e) = bad_in e
  bad_in (binary t s op a b) = or_else (bad_in a) (bad_in b)
  bad_in (lazy t s op a b) = or_else (bad_in a) (bad_in b)
  bad_in (assign t s a e) = or_else (bad_in a) (bad_in e)
  bad_in (update t s op a e) = or_else (bad_in a) (bad_in e)
  bad_in (call t s f es) = bad_in_exprs es
  bad_in (make t s c es) = bad_in_exprs es
  bad_in (part t s e n) = bad_in e
  bad_in (block t s ss) = bad_in_stmts ss
  bad_in (branch t s c a) = or_else (bad_in c) (bad_in a)
  bad_in (choice t s c a b) = or_else (bad_in c) (or_else (bad_in a) (bad_in b))
  bad_in (matched t s e as') = or_else (bad_in e) (or_else (bad_in_arms as') (match_refusal s (ty_of e) (patterns_of as')))
  bad_in (repeat t s is c b) = or_else (bad_among is) (or_else (bad_in c) (bad_in b))
  bad_in (panics t s k) = None
  bad_in (returned t s e) = bad_in e
  bad_in (endless t s is b) = or_else (bad_among is) (bad_in b)
  bad_in (until_break t s is b) = or_else (bad_among is) (bad_in b)
  bad_in (break_off t s) = None
  bad_in (go_on t s) = None

  pub bad_in_stmts : TypedStmts → Option SourceError
  bad_in_stmts done = None
  bad_in_stmts (last e) = bad_in e
  bad_in_stmts (leaving e) = bad_in e
  bad_in_stmts (bind e ss) = or_else (bad_in e) (bad_in_stmts ss)
  bad_in_stmts (run e ss) = or_else (bad_in e) (bad_in_stmts ss)

  pub bad_in_exprs : TypedExprs → Option SourceError
  bad_in_exprs none = None
  bad_in_exprs (more e es) = or_else (bad_in e) (bad_in_exprs es)

  pub bad_in_arms : TypedArms → Option SourceError
  bad_in_arms no_arms = None
  bad_in_arms (with_arm p xs e as') = or_else (bad_in e) (bad_in_arms as')

abbrev pub bad_clause : List TypedClause → Option SourceError
bad_clause [] = None
bad_clause (c ∷ cs) = or_else (bad_of c.formula) (bad_clause cs)

abbrev pub bad_in_function : TypedFunction → Option SourceError
bad_in_function f = or_else (bad_clause f.clauses) (bad_in f.body)

abbrev pub first_bad : List TypedFunction → Option SourceError
first_bad [] = None
first_bad (f ∷ fs) = or_else (bad_in_function f) (first_bad fs)
