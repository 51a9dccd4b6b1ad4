use Rattle.std.proofs.Common.{◌≡◌, map, take}
use Rattle.rs_types.specs.Growing.{empty_row}
use Rattle.rs_types.proofs.holding.no_rows.Given as goal

abbrev pub invariant-loop-i : goal.invariant-loop-i
invariant-loop-i l = l.rows.items ≡ map empty_row (take l.i l.decls)
