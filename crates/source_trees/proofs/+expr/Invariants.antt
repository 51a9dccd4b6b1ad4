use Rattle.std.proofs.Common.{◌≤◌}
use Rattle.source_trees.specs.ExprView.{expr_size}
use Rattle.source_trees.proofs.+expr.Given as goal

abbrev pub invariant-expr::Expr::drop-loop-left : goal.invariant-expr::Expr::drop-loop-left
invariant-expr::Expr::drop-loop-left l = expr_size l.self ≤ expr_size l.fn.self
