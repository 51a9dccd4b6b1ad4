use Rattle.std.proofs.Common.{◌≡◌, ◌+◌}
use Rattle.logic_term.specs.Context.{count_variables}
use Rattle.logic_term.proofs.context.Context.count_variables.Given as goal

abbrev pub invariant-loop-entry : goal.invariant-loop-entry
invariant-loop-entry l = count_variables l.self ≡ l.count + count_variables l.here
