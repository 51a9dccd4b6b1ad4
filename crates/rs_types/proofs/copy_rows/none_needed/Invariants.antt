use Rattle.std.proofs.Common.{◌≡◌, drop}
use Rattle.rs_types.specs.CopyRows.{none_needed}
use Rattle.rs_types.proofs.copy_rows.none_needed.Given as goal

abbrev pub invariant-loop-i : goal.invariant-loop-i
invariant-loop-i l = none_needed (drop l.from l.needed) ≡ none_needed (drop l.i l.needed)
