use Rattle.rs_types.specs.CopyRows.{unknown}
use Rattle.rs_types.proofs.Copied.{AreRows}
use Rattle.rs_types.proofs.copy_rows.copy_rows.Given as goal

abbrev pub decreases-loop-rows : goal.decreases-loop-rows
decreases-loop-rows l = unknown l.rows.items

abbrev pub invariant-loop-rows : goal.invariant-loop-rows
invariant-loop-rows l = AreRows l.decls l.rows.items
