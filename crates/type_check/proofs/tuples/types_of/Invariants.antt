use Rattle.std.proofs.Common.{◌≡◌, map, take}
use Rattle.type_check.specs.TypedExprView.{ty_of}
use Rattle.type_check.proofs.tuples.types_of.Given as goal

abbrev pub invariant-loop-part : goal.invariant-loop-part
invariant-loop-part l = l.types.items ≡ map ty_of (take l.part-index l.parts)
