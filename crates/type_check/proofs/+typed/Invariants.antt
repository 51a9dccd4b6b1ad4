use Rattle.std.proofs.Common.{◌≤◌}
use Rattle.type_check.specs.TypedExprView.{typed_size}
use Rattle.type_check.proofs.+typed.Given as goal

abbrev pub invariant-typed::TypedExpr::drop-loop-left : goal.invariant-typed::TypedExpr::drop-loop-left
invariant-typed::TypedExpr::drop-loop-left l = typed_size l.self ≤ typed_size l.fn.self
