use Rattle.std.proofs.Common.{◌≡◌, drop}
use Rattle.rs_types.specs.Weighing.{variants_weight}
use Rattle.rs_types.proofs.weighing.variants_weight.Given as goal

abbrev pub invariant-loop-i : goal.invariant-loop-i
invariant-loop-i l = l.most ≡ variants_weight l.question l.cases l.given (drop l.i l.variants)
