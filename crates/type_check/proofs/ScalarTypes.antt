-- Unit among the types.
use Rattle.std.proofs.Common.{◌≡◌, ◌==◌, List, [], ◌∷◌, length, arith, refl}
use Rattle.std.proofs.lemmas.Bool.Decides.{nat_tests}
use Rattle.logic_term.specs.Ty.{Ty, tuple}
use Rattle.logic_term.specs.TyView.{tys_of}
use Rattle.type_check.specs.Scalars.{is_scalar}

-- the tuple of no parts
pub empty_parts : (ts : List Ty) → (length ts == 0) ≡ is_scalar (tuple (tys_of ts))
empty_parts [] = refl
empty_parts (t ∷ ts) = grind (arith, nat_tests)
