-- Which expressions never have a value, since the run leaves them (Rust Reference, "Diverging expressions", "Divergence").
use Rattle.std.specs.Prelude.{Bool, true, false, ◌&&◌, ◌-◌, List, length, Option, Some, None, slice_get}
use Rattle.type_check.specs.declared.typed.TypedStmt.{TypedStmt}
use Rattle.type_check.specs.TypedExpr.{TypedExpr, TypedStmts, TypedArms, block, choice, matched, panics, returned, endless, break_off, go_on, done, last, leaving, bind, run, no_arms, with_arm}

abbrev mutual
  pub leaves : TypedExpr → Bool
  leaves (panics t s k) = true
  leaves (returned t s e) = true
  leaves (endless t s is b) = true
  leaves (break_off t s) = true
  leaves (go_on t s) = true
  leaves (block t s ss) = leaves_at_end ss
  leaves (choice t s c a b) = leaves a && leaves b
  leaves (matched t s e as') = all_arms_leave as'
  leaves _ = false

  -- a block leaves where its last expression does, or its last statement where it has none
  pub leaves_at_end : TypedStmts → Bool
  leaves_at_end done = false
  leaves_at_end (last e) = leaves e
  leaves_at_end (leaving e) = true
  leaves_at_end (bind e ss) = leaves_at_end ss
  leaves_at_end (run e ss) = leaves_at_end ss

  pub all_arms_leave : TypedArms → Bool
  all_arms_leave no_arms = true
  all_arms_leave (with_arm p xs e as') = leaves e && all_arms_leave as'

abbrev pub value_leaves : Option TypedStmt → Bool
value_leaves None = false
value_leaves (Some s) = leaves s.value

-- the last of the statements leaves
abbrev pub ends_leaving : List TypedStmt → Bool
ends_leaving ss = value_leaves (slice_get ss (length ss - 1))
