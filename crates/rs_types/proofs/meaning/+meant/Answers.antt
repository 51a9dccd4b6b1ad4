use Rattle.std.proofs.Common.{arith}
use Rattle.rs_types.proofs.PartByPart.{tree_smaller, argument_smaller}
use Rattle.rs_types.proofs.meaning.+meant.Goals as goal

-- src/meaning.rt:265:26
pub meant_all-meant-requires : goal.meant_all-meant-requires
meant_all-meant-requires t c = (omega (arith, tree_smaller c.args.written.now c.loop-i.i c.index-written-i.result c.index-written-i.is c.loop-i-test.true), tt)

-- src/meaning.rt:290:34
pub meant_arguments-meant-requires : goal.meant_arguments-meant-requires
meant_arguments-meant-requires t c =
    (omega (arith, argument_smaller c.args.written.now c.loop-i.i c.index-written-i.result c.in-Type.argument c.index-written-i.is c.loop-i-test.true c.in-Type.is), tt)
