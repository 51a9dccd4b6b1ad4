use Rattle.std.proofs.Common.{◌≡◌, ◌++◌}
use Rattle.logic_term.specs.Context.{count_variables, numbers}
use Rattle.logic_term.proofs.context.Context.numbers.Given as goal

abbrev pub invariant-loop-entry : goal.invariant-loop-entry
invariant-loop-entry l = record {
  count : l.left ≡ count_variables l.here;
  numbers : numbers l.self ≡ l.all.items ++ numbers l.here;
}
