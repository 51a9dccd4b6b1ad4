-- Types of lists, and their sorts.
use Rattle.std.proofs.Common.{◌≡◌, ℕ, ◌<◌, ◌≤◌, List, [], ◌∷◌, length, get_or, take, map, take_all, refl, ap, ◌∙◌}
use Rattle.logic_term.specs.Erased.{erased, all_erased}
use Rattle.logic_term.specs.Ty.{Ty, and_ty}
use Rattle.logic_term.specs.TyView.{tys_of, ty_size, tys_size}
use Rattle.logic_term.specs.TyFalls as falls

pub each_smaller : (ts : List Ty) (i : ℕ) (t : Ty) → t ≡ get_or ts i t → i < length ts → ty_size t < tys_size (tys_of ts)
each_smaller ts i t e l = falls.each_smaller ts i t e l

erased_listed : (ts : List Ty) → tys_of (map erased ts) ≡ all_erased (tys_of ts)
erased_listed [] = refl
erased_listed (t ∷ ts) = ap (and_ty (erased t)) (erased_listed ts)

pub erased_front : (n : ℕ) (ts us : List Ty) → us ≡ map erased (take n ts) → length ts ≤ n → tys_of us ≡ all_erased (tys_of ts)
erased_front n ts us e l = ap tys_of (e ∙ ap (map erased) (take_all n ts l)) ∙ erased_listed ts
