use Rattle.std.proofs.Common.{◌≡◌, drop}
use Rattle.type_check.specs.Typing.{has_field}
use Rattle.type_check.proofs.literals.has_field.Given as goal

abbrev pub invariant-loop-field : goal.invariant-loop-field
invariant-loop-field l = has_field l.name (drop l.field-index l.fields) ≡ has_field l.name l.fields
