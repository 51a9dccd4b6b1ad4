-- Arguments reach no further than all of them.
use Rattle.std.proofs.Common.{◌≡◌, get_or, ℕ, zero, suc, ◌<◌, ◌≤◌, List, [], ◌∷◌, length, arith}
use Rattle.type_check.specs.TypedExpr.{TypedExpr}
use Rattle.type_check.specs.TypedExprView.{exprs_of}
use Rattle.mir_build.specs.Reach.{reach, reach_in}

each_at : (es : List TypedExpr) (i : ℕ) (d : TypedExpr) → i < length es → reach (get_or es i d) ≤ reach_in (exprs_of es)
each_at [] i d h = absurd (omega arith)
each_at (e ∷ es) zero d h = omega arith
each_at (e ∷ es) (suc i) d h = omega (arith, each_at es i d (omega arith))

pub each_reaches : (es : List TypedExpr) (i : ℕ) (e : TypedExpr) → e ≡ get_or es i e → i < length es → reach e ≤ reach_in (exprs_of es)
each_reaches es i e q h = rw q (each_at es i e h)
