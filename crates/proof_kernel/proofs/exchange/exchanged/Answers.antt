use Rattle.std.proofs.Common.{[], ◌∷◌, ap}
use Rattle.proof_kernel.specs.Exchanged.{exchanged}
use Rattle.proof_kernel.specs.ExchangeSteps.{step}
use Rattle.proof_kernel.specs.ChangeCode.{exchange_of}
use Rattle.proof_kernel.proofs.ExchangeWalk.{enter_smaller, enter_step}
use Rattle.proof_kernel.proofs.exchange.exchanged.Goals as goal

pub loop-task-smaller-in-Continue-branch-2 : goal.loop-task-smaller-in-Continue-branch-2
loop-task-smaller-in-Continue-branch-2 c =
    enter_smaller (exchange_of c.args.change c.in-Enter.depth c.in-Enter.next.now) c.loop-task.tasks.items c.pop.new.self.items c.enter.new.tasks.items c.in-Some.task
    c.in-Enter.depth c.in-Enter.next.now c.in-Some.ensures.items (ap step c.in-Enter.is) c.in_ok-enter-in-Enter.ensures.tasks

pub loop-task-preserved-in-Continue-branch-2 : goal.loop-task-preserved-in-Continue-branch-2
loop-task-preserved-in-Continue-branch-2 c =
    enter_step (exchange_of c.args.change) c.loop-task.tasks.items c.pop.new.self.items c.in-Some.task c.in-Some.ensures.items c.loop-task.done.items
    (exchanged (exchange_of c.args.change) c.args.depth c.args.t.now ∷ []) c.loop-task.invariant
    c.in-Enter.depth c.in-Enter.next.now c.enter.new.tasks.items c.enter.new.done.items (ap step c.in-Enter.is) c.in_ok-enter-in-Enter.ensures.tasks c.in_ok-enter-in-Enter.ensures.made
