use Rattle.std.proofs.Common.{take}
use Rattle.prophecy_logic.specs.State.{Adds}
use Rattle.wp_gen.proofs.reached.with_goals_at.Given as goal

abbrev pub invariant-loop-goal : goal.invariant-loop-goal
invariant-loop-goal l = Adds l.state l.fn.first.items (take l.goal-index l.owed) l.all.items
