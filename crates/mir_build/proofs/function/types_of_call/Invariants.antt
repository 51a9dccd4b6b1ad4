use Rattle.std.proofs.Common.{◌≡◌, take}
use Rattle.mir_build.proofs.function.types_of_call.Given as goal

abbrev pub invariant-loop-ty : goal.invariant-loop-ty
invariant-loop-ty l = l.params ≡ take l.ty-index l.fn.signature.params
