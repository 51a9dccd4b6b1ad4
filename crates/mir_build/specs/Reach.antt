-- How many variables have to be in scope around an expression, so that each that it names is there. Contracts of the code alone speak of it.
use Rattle.std.specs.Prelude.{ℕ, ◌+◌, ◌-◌, max, length}
use Rattle.type_check.specs.TypedExpr.{TypedExpr, TypedStmts, TypedExprs, integer, truth, variable, negative, denied, cast, binary, lazy, assign, update, call, make, part, block, branch, choice, matched, repeat, panics, returned, endless}
use Rattle.type_check.specs.TypedExpr.{until_break, break_off, go_on, done, last, leaving, bind, run, none, more, TypedArms, no_arms, with_arm}

abbrev mutual
  pub reach : TypedExpr → ℕ
  reach (integer ty s z k) = 0
  reach (truth ty s b) = 0
  reach (variable ty s v) = v + 1
  reach (negative ty s e) = reach e
  reach (denied ty s e) = reach e
  reach (cast ty s e) = reach e
  reach (binary ty s op a b) = max (reach a) (reach b)
  reach (lazy ty s op a b) = max (reach a) (reach b)
  reach (assign ty s a e) = max (reach a) (reach e)
  reach (update ty s op a e) = max (reach a) (reach e)
  reach (call ty s f es) = reach_in es
  reach (make ty s k es) = reach_in es
  reach (part ty s e n) = reach e
  reach (block ty s ss) = reach_of ss
  reach (branch ty s e a) = max (reach e) (reach a)
  reach (choice ty s e a b) = max (reach e) (max (reach a) (reach b))
  reach (matched ty s e as') = max (reach e) (reach_in_arms as')
  reach (repeat ty s is e b) = max (reach e) (reach b)
  reach (panics ty s k) = 0
  reach (returned ty s e) = reach e
  reach (endless ty s is b) = reach b
  reach (until_break ty s is b) = reach b
  reach (break_off ty s) = 0
  reach (go_on ty s) = 0

  pub reach_of : TypedStmts → ℕ
  reach_of done = 0
  reach_of (last e) = reach e
  reach_of (leaving e) = reach e
  -- behind a binding there is one variable more
  reach_of (bind e ss) = max (reach e) (reach_of ss - 1)
  reach_of (run e ss) = max (reach e) (reach_of ss)

  pub reach_in : TypedExprs → ℕ
  reach_in none = 0
  reach_in (more e es) = max (reach e) (reach_in es)

  -- in an arm there is one variable more for each name that is bound
  pub reach_in_arms : TypedArms → ℕ
  reach_in_arms no_arms = 0
  reach_in_arms (with_arm p ys e as') = max (reach e - length ys) (reach_in_arms as')
