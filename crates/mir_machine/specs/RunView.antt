-- What a machine's run has come to, by the machine's fields.
use Rattle.mir_machine.specs.declared.machine.Status.{Status}
use Rattle.mir_machine.specs.declared.machine.Status.TheVariants as status
use Rattle.mir_machine.specs.Frame.{State}
use Rattle.mir_machine.specs.Step.{Outcome, Running, Returned, Panicked}

abbrev pub outcome_at : State (Unit {0}) → Status → Outcome (Unit {0})
outcome_at s status.Running = Running s
outcome_at s (status.Returned t) = Returned s t
outcome_at s (status.Panicked cause span) = Panicked cause span
