use Rattle.std.proofs.Common.{◌≡◌, ◌++◌, drop}
use Rattle.mir_build.specs.Lowering.{heads}
use Rattle.mir_build.proofs.around.nest.Given as goal

abbrev pub invariant-loop-inner : goal.invariant-loop-inner
invariant-loop-inner l = l.all ++ heads (drop l.inner-index l.c.loops.items) ≡ heads l.c.loops.items
