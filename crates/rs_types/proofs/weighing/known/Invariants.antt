use Rattle.std.proofs.Common.{◌≡◌, drop}
use Rattle.rs_types.specs.Weighing.{known}
use Rattle.rs_types.proofs.weighing.known.Given as goal

abbrev pub invariant-loop-i : goal.invariant-loop-i
invariant-loop-i l = known l.adt l.given l.cases ≡ known l.adt l.given (drop l.i l.cases)
