use Rattle.std.proofs.Common.{arith}
use Rattle.wp_gen.proofs.GoalLists.{no_more_parameters}
use Rattle.wp_gen.proofs.oblige.parameters.Goals as goal

pub returns : goal.returns
returns c = no_more_parameters c.args.names.now c.args.types.now c.loop-i.i _ _ (omega arith) c.loop-i.invariant
