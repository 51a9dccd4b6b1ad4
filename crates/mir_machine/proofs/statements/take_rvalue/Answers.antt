use Rattle.mir_machine.proofs.RightSides.{pair_comes}
use Rattle.mir_machine.proofs.statements.take_rvalue.Goals as goal

pub returns-in_ok-take-in-Binary-clause-takes : goal.returns-in_ok-take-in-Binary-clause-takes
returns-in_ok-take-in-Binary-clause-takes c =
    rw c.in-Binary.is (pair_comes c.take-in-Binary-2.result c.args.state.now _ _ c.args.taken.now.trees.items _ _ c.in-Binary.first c.in-Binary.second c.in_ok-take-in-Binary.ensures.takes c.take-in-Binary-2.ensures.takes)
