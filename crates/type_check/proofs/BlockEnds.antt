-- A block leaves as its end does.
use Rattle.std.proofs.Common.{◌≡◌, ◌∙◌, Bool, true, false, List, [], ◌∷◌, refl}
use Rattle.type_check.specs.declared.typed.TypedStmt.{TypedStmt}
use Rattle.type_check.specs.Leaves.{leaves_at_end}
use Rattle.type_check.specs.TypedExpr.{TypedExpr, TypedStmts}
use Rattle.type_check.specs.TypedExprView.{stmt_of, stmts_of}
use Rattle.type_check.proofs.TypedParts.{last_smaller}

behind_one : (b : Bool) (e : TypedExpr) (ss : TypedStmts) → leaves_at_end (stmt_of b e ss) ≡ leaves_at_end ss
behind_one true e ss = refl
behind_one false e ss = refl

pub leaves_as_end : (ss : List TypedStmt) (end : TypedStmts) → leaves_at_end (stmts_of ss end) ≡ leaves_at_end end
leaves_as_end [] end = refl
leaves_as_end (s ∷ ss) end = behind_one s.binds s.value (stmts_of ss end) ∙ leaves_as_end ss end

pub ruleset leaving_parts = (leaves_as_end, last_smaller)
