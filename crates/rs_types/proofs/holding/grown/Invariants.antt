use Rattle.std.proofs.Common.{◌≡◌, ◌++◌, drop}
use Rattle.rs_types.specs.Growing.{rows_grown}
use Rattle.rs_types.proofs.holding.grown.Given as goal

abbrev pub invariant-loop-i : goal.invariant-loop-i
invariant-loop-i l = l.new.items ++ rows_grown l.rows (drop l.i l.decls) (drop l.i l.rows) ≡ rows_grown l.rows l.decls l.rows
