use Rattle.pat_check.proofs.Branching.{most_branches}
use Rattle.pat_check.proofs.Building.{Building, task_weights}
use Rattle.pat_check.proofs.deciding.tree.Given as goal

abbrev pub invariant-loop-task : goal.invariant-loop-task
invariant-loop-task l = Building l.decls l.arms l.t l.tasks.items l.made.items

abbrev pub decreases-loop-task : goal.decreases-loop-task
decreases-loop-task l = task_weights (most_branches l.decls) l.arms l.tasks.items
