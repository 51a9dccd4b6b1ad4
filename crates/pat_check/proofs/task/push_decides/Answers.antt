use Rattle.std.proofs.Common.{rules, ◌≡◌, ◌∷◌, [], ◌++◌}
use Rattle.pat_check.specs.declared.task.Task.TheVariants as task
use Rattle.pat_check.proofs.Stacks.{task_pushed}
use Rattle.pat_check.proofs.task.push_decides.Goals as goal

pub loop-i-preserved : goal.loop-i-preserved
loop-i-preserved c =
    let known = c.index-branches-i.result in
    let pushed : c.push.new.self.items ≡ c.loop-i.tasks.items ++ task.Decide (record { from = c.args.from; known = known }) ∷ [] = search rules in
    task_pushed c.args.from c.loop-i.i c.args.branches.now known c.args.tasks.now.items c.loop-i.tasks.items c.push.new.self.items c.index-branches-i.is c.loop-i-test.true c.loop-i.invariant pushed
