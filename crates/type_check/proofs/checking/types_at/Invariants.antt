use Rattle.std.proofs.Common.{◌≡◌, ◌∷◌, map, take}
use Rattle.type_check.specs.Checked.{answer_at, param_at}
use Rattle.type_check.proofs.checking.types_at.Given as goal

abbrev pub invariant-loop-param : goal.invariant-loop-param
invariant-loop-param l = l.all ≡ answer_at l.fn.f.name.span l.fn.f.answer ∷ map param_at (take l.param-index l.fn.f.params)
