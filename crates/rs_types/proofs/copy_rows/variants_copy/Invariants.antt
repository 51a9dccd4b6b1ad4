use Rattle.std.proofs.Common.{◌≡◌, drop}
use Rattle.rs_types.specs.CopyRows.{counted, variants_copy}
use Rattle.rs_types.proofs.copy_rows.variants_copy.Given as goal

abbrev pub invariant-loop-i : goal.invariant-loop-i
invariant-loop-i l = variants_copy l.rows (counted l.assumed) l.variants ≡ variants_copy l.rows (counted l.assumed) (drop l.i l.variants)
