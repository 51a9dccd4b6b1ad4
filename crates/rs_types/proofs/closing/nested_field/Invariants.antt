use Rattle.std.proofs.Common.{◌≡◌, drop}
use Rattle.rs_types.specs.Heavy.{nested_at}
use Rattle.rs_types.proofs.closing.nested_field.Given as goal

abbrev pub invariant-loop-i : goal.invariant-loop-i
invariant-loop-i l = nested_at l.cases l.fields ≡ nested_at l.cases (drop l.i l.fields)
