use Rattle.std.proofs.Common.{◌≡◌, ◌≤◌}
use Rattle.type_check.specs.Breaks.{breaks}
use Rattle.type_check.specs.FirstBad.{bad_in}
use Rattle.type_check.specs.TypedExprView.{typed_size}
use Rattle.type_check.proofs.logic.cast_operand.Given as goal

abbrev pub invariant-loop-inner : goal.invariant-loop-inner
invariant-loop-inner l = record {
  bad : bad_in l.e ≡ bad_in l.operand;
  breaks : breaks l.e ≡ breaks l.operand;
  smaller : typed_size l.operand ≤ typed_size l.e;
}

abbrev pub decreases-loop-inner : goal.decreases-loop-inner
decreases-loop-inner l = typed_size l.operand
