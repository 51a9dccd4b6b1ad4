use Rattle.std.proofs.Common.{◌≡◌, [], ◌++◌, reverse}
use Rattle.goal_text.specs.BoundView.{bounds_of}
use Rattle.goal_text.specs.GoalText.{text_in}
use Rattle.goal_text.specs.SpellingView.{spelling_of}
use Rattle.goal_text.specs.TasksView.{left_load, left_text}
use Rattle.goal_text.proofs.term.push_term.Given as goal

abbrev pub invariant-loop-task : goal.invariant-loop-task
invariant-loop-task l = l.out.items ++ left_text (spelling_of l.spelling) (bounds_of l.bound.items) (reverse l.tasks.items) ≡ l.fn.out.items ++ text_in (spelling_of l.spelling) [] l.term

abbrev pub decreases-loop-task : goal.decreases-loop-task
decreases-loop-task l = left_load (reverse l.tasks.items)
