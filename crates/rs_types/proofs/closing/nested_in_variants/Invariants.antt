use Rattle.std.proofs.Common.{◌≡◌, drop}
use Rattle.rs_types.specs.Accepted.{all_fields}
use Rattle.rs_types.specs.Heavy.{nested_at}
use Rattle.rs_types.proofs.closing.nested_in_variants.Given as goal

abbrev pub invariant-loop-i : goal.invariant-loop-i
invariant-loop-i l = nested_at l.cases (all_fields l.variants) ≡ nested_at l.cases (all_fields (drop l.i l.variants))
