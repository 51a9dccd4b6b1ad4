use Rattle.std.proofs.Common.{◌≡◌, ◌++◌, drop}
use Rattle.rs_types.specs.Growing.{row_grown}
use Rattle.rs_types.proofs.holding.grown_row.Given as goal

abbrev pub invariant-loop-n : goal.invariant-loop-n
invariant-loop-n l = l.new.items ++ row_grown l.rows l.variants l.n (drop l.n l.old) ≡ row_grown l.rows l.variants 0 l.old
