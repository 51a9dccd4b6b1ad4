-- What is looked for in types.
use Rattle.std.specs.Prelude.{ℕ, ◌==◌, not, Bool, true, false, get_or}
use Rattle.rs_types.specs.declared.standing.Wanted.{Wanted}
use Rattle.rs_types.specs.declared.standing.Wanted.TheVariants.{Param, Outside}

-- which type parameters
abbrev pub wants_param : Wanted → ℕ → Bool
wants_param (Param m) n = n == m
wants_param (Outside set) n = false

-- which declared types
abbrev pub wants_adt : Wanted → ℕ → Bool
wants_adt (Param m) d = false
wants_adt (Outside set) d = not (get_or set.now d true)
