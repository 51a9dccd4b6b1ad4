use Rattle.std.proofs.Common.{◌≡◌, drop}
use Rattle.rs_types.specs.Refused.{first_by}
use Rattle.rs_types.proofs.checks.first_of.Given as goal

abbrev pub invariant-loop-i : goal.invariant-loop-i
invariant-loop-i l = first_by l.bounded l.valued l.nested l.checks ≡ first_by l.bounded l.valued l.nested (drop l.i l.checks)
