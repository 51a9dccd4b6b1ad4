use Rattle.std.proofs.Common.{◌≡◌, ◌++◌, drop, map}
use Rattle.logic_term.specs.TyView.{tys_of}
use Rattle.type_check.specs.WellTyped.{field_at}
use Rattle.type_check.proofs.calling.field_tys.Given as goal

abbrev pub invariant-loop-field : goal.invariant-loop-field
invariant-loop-field l = l.types.items ++ map (field_at (tys_of l.maker.arguments.items)) (drop l.field-index l.maker.fields.now) ≡ map (field_at (tys_of l.maker.arguments.items)) l.maker.fields.now
