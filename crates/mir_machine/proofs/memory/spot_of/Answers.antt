use Rattle.std.proofs.Common.{ap, length, arith}
use Rattle.std.proofs.lemmas.Result.{err_from_is_err_and}
use Rattle.mir_machine.proofs.Places.{spot_stops}
use Rattle.mir_machine.proofs.memory.spot_of.Goals as goal

pub returns-in_err-tree : goal.returns-in_err-tree
returns-in_err-tree c =
    let p = err_from_is_err_and c.from_residual.result c.from_residual.ensures.1 in
    rw (p.1, p.2)
    (spot_stops c.in_err-tree.field-0.0 c.args.state.now c.args.place.now c.loop-part.at c.loop-part.part-index c.loop-part.invariant (omega (arith, ap length c.as_slice-part-items.ensures)) c.in_err-tree.ensures.tree)
