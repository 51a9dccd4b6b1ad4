use Rattle.std.proofs.Common.{◌≡◌, ◌≤◌, ◌++◌, length, reverse}
use Rattle.grammar_tables.proofs.evaluating.take_parts.Given as goal

abbrev pub invariant-loop-values : goal.invariant-loop-values
invariant-loop-values g l = record {
  same : l.initial.values.items ≡ l.values.items ++ reverse l.parts.items;
  least : l.first ≤ length l.values.items;
}

abbrev pub decreases-loop-values : goal.decreases-loop-values
decreases-loop-values g l = length l.values.items
