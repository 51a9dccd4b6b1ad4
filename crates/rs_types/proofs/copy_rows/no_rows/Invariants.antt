use Rattle.std.proofs.Common.{◌≡◌, replicate}
use Rattle.rs_types.specs.CopyRows.{no_row}
use Rattle.rs_types.proofs.copy_rows.no_rows.Given as goal

abbrev pub invariant-loop : goal.invariant-loop
invariant-loop l = l.rows.items ≡ replicate l.counter no_row
