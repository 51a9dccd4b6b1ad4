use Rattle.std.proofs.Common.{◌≡◌, drop, map}
use Rattle.logic_term.specs.Theory.{field_ty}
use Rattle.logic_term.specs.TyView.{tys_of}
use Rattle.rs_types.specs.Weighing.{all_weights}
use Rattle.rs_types.proofs.weighing.fields_weight.Given as goal

abbrev pub invariant-loop-i : goal.invariant-loop-i
invariant-loop-i l = l.all ≡ all_weights l.question l.cases l.given (tys_of (map field_ty (drop l.i l.fields)))
