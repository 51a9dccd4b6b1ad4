-- Whether a `break` leaves the loop around an expression (Rust Reference, "break expressions").
use Rattle.std.specs.Prelude.{Bool, true, false, ◌||◌}
use Rattle.type_check.specs.TypedExpr.{TypedExpr, TypedStmts, TypedExprs, TypedArms, negative, denied, cast, binary, lazy, assign, update, call, make, part, block, branch, choice, matched, returned, break_off, done, last, leaving, bind, run, none, more, no_arms, with_arm}

-- a `break` stands in the expression, and in no loop of its own; a condition of a `while` has none
abbrev mutual
  pub breaks : TypedExpr → Bool
  breaks (break_off t s) = true
  breaks (negative t s e) = breaks e
  breaks (denied t s e) = breaks e
  breaks (cast t s e) = breaks e
  breaks (binary t s op a b) = breaks a || breaks b
  breaks (lazy t s op a b) = breaks a || breaks b
  breaks (assign t s a e) = breaks a || breaks e
  breaks (update t s op a e) = breaks a || breaks e
  breaks (call t s f es) = some_breaks es
  breaks (make t s c es) = some_breaks es
  breaks (part t s e n) = breaks e
  breaks (block t s ss) = some_statement_breaks ss
  breaks (branch t s c a) = breaks c || breaks a
  breaks (choice t s c a b) = breaks c || (breaks a || breaks b)
  breaks (matched t s e as') = breaks e || some_arm_breaks as'
  breaks (returned t s e) = breaks e
  breaks _ = false

  pub some_statement_breaks : TypedStmts → Bool
  some_statement_breaks done = false
  some_statement_breaks (last e) = breaks e
  some_statement_breaks (leaving e) = breaks e
  some_statement_breaks (bind e ss) = breaks e || some_statement_breaks ss
  some_statement_breaks (run e ss) = breaks e || some_statement_breaks ss

  pub some_breaks : TypedExprs → Bool
  some_breaks none = false
  some_breaks (more e es) = breaks e || some_breaks es

  pub some_arm_breaks : TypedArms → Bool
  some_arm_breaks no_arms = false
  some_arm_breaks (with_arm p xs e as') = breaks e || some_arm_breaks as'
