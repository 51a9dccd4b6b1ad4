use Rattle.std.proofs.Common.{◌≡◌, ◌++◌, drop}
use Rattle.type_check.specs.WellTyped.{signatures}
use Rattle.mir_build.specs.Lowering.{calls_of}
use Rattle.mir_build.proofs.function.calls_of.Given as goal

abbrev pub invariant-loop-block : goal.invariant-loop-block
invariant-loop-block l = l.all ++ calls_of (signatures l.fn.functions) (drop l.block-index l.blocks) ≡ calls_of (signatures l.fn.functions) l.blocks
