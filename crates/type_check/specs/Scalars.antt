-- The types that are looked into no further.
use Rattle.std.specs.Prelude.{Bool, true, false}
use Rattle.logic_term.specs.Ty.{Ty, int, bool, tuple, no_tys}

-- the machine integers, the truth values and unit
abbrev pub is_scalar : Ty → Bool
is_scalar (int k) = true
is_scalar bool = true
is_scalar (tuple no_tys) = true
is_scalar _ = false
