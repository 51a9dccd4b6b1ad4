use Rattle.std.proofs.Common.{◌≡◌}
use Rattle.logic_term.specs.Context.{closed}
use Rattle.logic_term.proofs.context.Context.close.Given as goal

abbrev pub invariant-loop-entry : goal.invariant-loop-entry
invariant-loop-entry l = closed l.self l.fn.formula ≡ closed l.here l.all
