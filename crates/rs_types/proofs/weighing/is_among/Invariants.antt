use Rattle.std.proofs.Common.{◌≡◌, drop}
use Rattle.rs_types.specs.Weighing.{is_among}
use Rattle.rs_types.proofs.weighing.is_among.Given as goal

abbrev pub invariant-loop-i : goal.invariant-loop-i
invariant-loop-i l = is_among l.adt l.given l.cases ≡ is_among l.adt l.given (drop l.i l.cases)
