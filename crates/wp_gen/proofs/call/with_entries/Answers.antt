use Rattle.std.proofs.Common.{arith}
use Rattle.wp_gen.proofs.GoalLists.{no_more_entries}
use Rattle.wp_gen.proofs.call.with_entries.Goals as goal

pub returns : goal.returns
returns c = no_more_entries c.args.names.now c.args.terms.now c.loop-i.i _ _ (omega arith) c.loop-i.invariant
