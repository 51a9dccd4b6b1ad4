use Rattle.std.proofs.Common.{◌≡◌, drop, length}
use Rattle.rs_types.specs.Weighing.{same_weights}
use Rattle.rs_types.proofs.weighing.same_weights.Given as goal

abbrev pub invariant-loop-i : goal.invariant-loop-i
invariant-loop-i l = (length l.one ≡ length l.other) × (same_weights l.one l.other ≡ same_weights (drop l.i l.one) (drop l.i l.other))
