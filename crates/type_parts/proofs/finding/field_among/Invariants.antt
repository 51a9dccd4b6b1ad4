use Rattle.std.proofs.Common.{◌≡◌, drop}
use Rattle.logic_term.specs.TyView.{tys_of}
use Rattle.type_parts.specs.Parts.{field_from}
use Rattle.type_parts.proofs.finding.field_among.Given as goal

abbrev pub invariant-loop-field : goal.invariant-loop-field
invariant-loop-field l = field_from l.number l.name (tys_of l.types) (drop l.field-index l.fields) ≡ field_from 0 l.name (tys_of l.types) l.fields
