use Rattle.std.proofs.Common.{◌≡◌, ◌+◌, ◌++◌, drop}
use Rattle.prophecy_logic.specs.Walk.{stored}
use Rattle.wp_gen.proofs.oblige.with_stored.Given as goal

abbrev pub invariant-loop-name : goal.invariant-loop-name
invariant-loop-name l = record {
  number : l.local ≡ 1 + l.name-index;
  so_far : l.fn.first.items ++ stored l.body 1 l.names ≡ l.all.items ++ stored l.body (1 + l.name-index) (drop l.name-index l.names);
}
