use Rattle.pat_check.proofs.Building.{building_goes_on, is_ready}
use Rattle.pat_check.proofs.deciding.tree.Goals as goal

pub perform-requires : goal.perform-requires
perform-requires c = record { ready = is_ready c.args.decls.now c.args.arms.now c.args.t.now c.loop-task.tasks.items c.pop.new.self.items c.in-Some.task c.loop-task.made.items c.in-Some.ensures.items c.loop-task.invariant }

pub loop-task-smaller : goal.loop-task-smaller
loop-task-smaller c =
    (building_goes_on c.args.decls.now c.args.arms.now c.args.t.now c.loop-task.tasks.items c.pop.new.self.items c.perform.new.tasks.items c.in-Some.task c.loop-task.made.items c.perform.new.made.items c.requires.typed c.in-Some.ensures.items c.loop-task.invariant c.in_ok-perform.ensures).1

pub loop-task-preserved : goal.loop-task-preserved
loop-task-preserved c =
    (building_goes_on c.args.decls.now c.args.arms.now c.args.t.now c.loop-task.tasks.items c.pop.new.self.items c.perform.new.tasks.items c.in-Some.task c.loop-task.made.items c.perform.new.made.items c.requires.typed c.in-Some.ensures.items c.loop-task.invariant c.in_ok-perform.ensures).0
