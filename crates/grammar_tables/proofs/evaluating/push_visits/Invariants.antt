use Rattle.std.proofs.Common.{◌≡◌, ◌++◌, take}
use Rattle.grammar_tables.specs.Work.{visits}
use Rattle.grammar_tables.proofs.evaluating.push_visits.Given as goal

abbrev pub invariant-loop-symbol : goal.invariant-loop-symbol
invariant-loop-symbol l = l.work.items ≡ l.initial.work.items ++ visits (take l.symbol-index l.symbols)
