use Rattle.std.proofs.Common.{◌≡◌, [], length, drop, ◌+◌, ◌-◌, ◌*◌, ◌^◌}
use Rattle.grammar_tables.specs.Tables.{grammar_in}
use Rattle.grammar_tables.proofs.EvaluatorRuns.{GoesOn}
use Rattle.grammar_tables.proofs.evaluating.evaluate.Given as goal

abbrev pub invariant-loop-step : goal.invariant-loop-step
invariant-loop-step g l = record {
  on : GoesOn (grammar_in l.tables) (g.V.SemanticValue.actions l.context) l.count l.goal l.derivation l.work.items (drop l.next l.derivation) l.at l.values.items;
  empty : l.parts.items ≡ [];
}

abbrev pub decreases-loop-step : goal.decreases-loop-step
decreases-loop-step g l = (length l.derivation - l.next) * 2 ^ 65 + length l.work.items
