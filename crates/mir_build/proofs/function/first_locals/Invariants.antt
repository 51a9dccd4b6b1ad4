use Rattle.std.proofs.Common.{◌≡◌, ◌∷◌, take}
use Rattle.mir_build.proofs.function.first_locals.Given as goal

abbrev pub invariant-loop-ty : goal.invariant-loop-ty
invariant-loop-ty l = l.all ≡ l.fn.signature.answer ∷ take l.ty-index l.fn.signature.params
