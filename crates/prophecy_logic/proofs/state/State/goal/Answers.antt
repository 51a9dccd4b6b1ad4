use Rattle.std.proofs.Common.{refl}
use Rattle.prophecy_logic.proofs.Ahead.{goal_is}
use Rattle.prophecy_logic.proofs.state.State.goal.Goals as goal

pub returns : goal.returns
returns c = goal_is c.args.self.now c.args.goal.now _ c.in_ok-closed.closed c.in_ok-closed.ensures.below c.in_ok-closed.ensures.is refl
