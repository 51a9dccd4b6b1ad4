use Rattle.std.proofs.Common.{[], ◌∷◌, ap}
use Rattle.logic_term.specs.Placed.{placed}
use Rattle.logic_term.specs.Subst.{numbers_before, placing}
use Rattle.logic_term.specs.Tasks.{step}
use Rattle.logic_term.proofs.TasksWalk.{enter_smaller, enter_step}
use Rattle.logic_term.proofs.term.Term.placed_in.Goals as goal

pub loop-task-smaller-in-Continue-branch-2 : goal.loop-task-smaller-in-Continue-branch-2
loop-task-smaller-in-Continue-branch-2 c =
    enter_smaller c.loop-task.tasks.items c.pop.new.self.items c.enter.new.tasks.items c.in-Some.task c.loop-task.depth c.in-Enter.t.now c.in-Some.ensures.items (ap step c.in-Enter.is) c.in_ok-enter-in-Enter.ensures.tasks

pub loop-task-preserved-in-Continue-branch-2 : goal.loop-task-preserved-in-Continue-branch-2
loop-task-preserved-in-Continue-branch-2 c =
    enter_step c.args.reduces c.args.sub.now c.loop-task.tasks.items c.pop.new.self.items c.in-Some.task c.in-Some.ensures.items c.loop-task.bound.items c.loop-task.depth c.loop-task.done.items
    (c.args.bound.now.items, placed c.args.reduces c.args.next (placing (numbers_before c.args.bound.now.items c.args.sub.now)) c.args.self.now ∷ [])
    c.in-Enter.t.now c.enter.new.tasks.items c.enter.new.bound.items c.enter.new.depth c.enter.new.done.items (ap step c.in-Enter.is)
    c.in_ok-enter-in-Enter.ensures.tasks c.in_ok-enter-in-Enter.ensures.bound c.in_ok-enter-in-Enter.ensures.depth c.in_ok-enter-in-Enter.ensures.made c.loop-task.invariant
