use Rattle.std.proofs.Common.{◌≡◌, ◌++◌, take}
use Rattle.pat_check.specs.Tasks.{decides}
use Rattle.pat_check.proofs.task.push_decides.Given as goal

abbrev pub invariant-loop-i : goal.invariant-loop-i
invariant-loop-i l = l.tasks.items ≡ l.fn.tasks.items ++ decides l.from (take l.i l.branches)
