use Rattle.std.proofs.Common.{◌≡◌, take, map}
use Rattle.logic_term.specs.Sort.{instance}
use Rattle.logic_term.specs.Theory.{field_ty}
use Rattle.logic_term.specs.TyView.{tys_of}
use Rattle.pattern_tests.proofs.typing.fields_of.Given as goal

abbrev pub invariant-loop-i : goal.invariant-loop-i
invariant-loop-i l = l.made.items ≡ map (instance (tys_of l.types)) (take l.i (map field_ty l.fields))
