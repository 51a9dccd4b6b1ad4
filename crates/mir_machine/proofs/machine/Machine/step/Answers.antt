use Rattle.mir_machine.proofs.Stepping.{safe_step, never_sticks}
use Rattle.mir_machine.proofs.machine.Machine.step.Goals as goal

pub invariant_of-self : goal.invariant_of-self
invariant_of-self g c =
    rw c.in-Running.is (safe_step c.self.inside.bodies.now c.self.inside.state _ (rw c.in-Running.is at c.self.invariant) (rw c.in-Ok-None.field-0-is at c.in-Ok-None.ensures.steps))

pub invariant_of-self-in-Ok-Some : goal.invariant_of-self-in-Ok-Some
invariant_of-self-in-Ok-Some g c =
    safe_step c.self.inside.bodies.now c.self.inside.state _ (rw c.in-Running.is at c.self.invariant) (rw c.in-Ok-Some.field-0-is at c.in-Ok-Some.ensures.steps)

pub invariant_of-self-in-Err-Panics : goal.invariant_of-self-in-Err-Panics
invariant_of-self-in-Err-Panics g c =
    safe_step c.self.inside.bodies.now c.self.inside.state _ (rw c.in-Running.is at c.self.invariant) (rw c.in-Err-Panics.field-0-is at c.in-Err-Panics.ensures.steps)

pub unreachable-requires : goal.unreachable-requires
unreachable-requires g c =
    never_sticks c.self.inside.bodies.now c.self.inside.state (rw c.in-Running.is at c.self.invariant) (rw c.in-Err-Stuck.field-0-is at c.in-Err-Stuck.ensures.steps)
