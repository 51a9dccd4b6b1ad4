use Rattle.std.proofs.Common.{◌≡◌, ◌++◌, drop}
use Rattle.rs_types.specs.Growing.{bounded_grown}
use Rattle.rs_types.proofs.bounded.bounded_round.Given as goal

abbrev pub invariant-loop-i : goal.invariant-loop-i
invariant-loop-i l = l.new.items ++ bounded_grown l.rows l.set (drop l.i l.decls) (drop l.i l.set) ≡ bounded_grown l.rows l.set l.decls l.set
