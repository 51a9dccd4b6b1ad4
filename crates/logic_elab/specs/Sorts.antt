-- Tests of sorts.
use Rattle.std.specs.Prelude.{Bool, true, false}
use Rattle.logic_term.specs.Same.{same_code}
use Rattle.logic_term.specs.Ty.{Ty, bool, math_int}
use Rattle.logic_term.specs.TyCode.{ty_code}

unfoldable pub same_ty : Ty → Ty → Bool
same_ty t u = same_code (ty_code t) (ty_code u)

abbrev pub is_math_int : Ty → Bool
is_math_int math_int = true
is_math_int _ = false

abbrev pub is_bool : Ty → Bool
is_bool bool = true
is_bool _ = false
