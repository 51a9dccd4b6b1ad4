-- The types for type parameters, as a list.
use Rattle.std.proofs.Common.{◌≡◌, refl, ℕ, zero, suc, List, [], ◌∷◌, get_or}
use Rattle.logic_term.specs.Ty.{Ty, math_int}
use Rattle.logic_term.specs.TyView.{tys_of}
use Rattle.logic_term.specs.Sort.{nth_ty}

pub nth_ty-tys_of : (ts : List Ty) (n : ℕ) → nth_ty (tys_of ts) n ≡ get_or ts n math_int
nth_ty-tys_of [] n = refl
nth_ty-tys_of (t ∷ ts) zero = refl
nth_ty-tys_of (t ∷ ts) (suc n) = nth_ty-tys_of ts n
