use Rattle.std.proofs.Common.{◌≡◌, ◌+◌, length}
use Rattle.prophecy_logic.specs.State.{listed}
use Rattle.wp_gen.proofs.oblige.listed.Given as goal

abbrev pub invariant-loop-goal : goal.invariant-loop-goal
invariant-loop-goal l = record {
  items : l.obligations.items ≡ listed l.owner l.first l.yielded;
  next : l.number ≡ l.first + length l.yielded;
}
