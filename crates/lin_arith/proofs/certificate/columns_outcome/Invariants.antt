use Rattle.std.proofs.Common.{◌-◌, ◌^◌, ◌≤◌}
use Rattle.lin_arith.specs.Columns.{IsOutcome}
use Rattle.lin_arith.proofs.Steps.{IsSeen}
use Rattle.lin_arith.proofs.certificate.columns_outcome.Given as goal

abbrev pub invariant-loop-atom : goal.invariant-loop-atom
invariant-loop-atom l = IsOutcome (IsSeen l.from) l.rows l.mult l.outcome × (l.from ≤ 2 ^ 32)

abbrev pub decreases-loop-atom : goal.decreases-loop-atom
decreases-loop-atom l = 2 ^ 32 - l.from
