-- The types of tuples.
use Rattle.std.proofs.Common.{◌≡◌, List, [], ◌∷◌, map, refl, ap}
use Rattle.logic_term.specs.Ty.{Ty, and_ty}
use Rattle.logic_term.specs.TyView.{tys_of}
use Rattle.type_check.specs.TypedExpr.{TypedExpr}
use Rattle.type_check.specs.TypedExprView.{exprs_of, ty_of}
use Rattle.type_check.specs.Typing.{listed}
use Rattle.type_check.specs.WellTyped.{tys_of_exprs}

pub listed_types : (ts : List Ty) → listed (tys_of ts) ≡ ts
listed_types [] = refl
listed_types (t ∷ ts) = ap (λ us. t ∷ us) (listed_types ts)

pub all_types : (es : List TypedExpr) → tys_of (map ty_of es) ≡ tys_of_exprs (exprs_of es)
all_types [] = refl
all_types (e ∷ es) = ap (and_ty (ty_of e)) (all_types es)
