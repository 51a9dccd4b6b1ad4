use Rattle.std.proofs.Common.{◌≡◌}
use Rattle.type_check.specs.TypedExprView.{typed_size}
use Rattle.mir_build.specs.Tasks.{root}
use Rattle.mir_build.proofs.assignment.root_of.Given as goal

abbrev pub invariant-loop-value : goal.invariant-loop-value
invariant-loop-value l = root l.here ≡ root l.e

abbrev pub decreases-loop-value : goal.decreases-loop-value
decreases-loop-value l = typed_size l.here
