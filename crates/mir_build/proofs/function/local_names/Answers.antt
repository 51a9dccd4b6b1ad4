use Rattle.std.proofs.Common.{arith}
use Rattle.mir_build.proofs.function.local_names.Goals as goal

pub returns-clause-few : goal.returns-clause-few
returns-clause-few c = omega (arith, c.loop-ty.invariant.number, c.loop-ty.invariant.small, c.loop-ty-test.false)
