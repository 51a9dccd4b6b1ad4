use Rattle.verify_core.proofs.RoundLaws.{Round}
use Rattle.verify_core.proofs.reach.unset_once.Given as goal

abbrev pub invariant-loop-function : goal.invariant-loop-function
invariant-loop-function l = Round l.bodies l.initial.flags.items l.function l.flags.items l.changed
