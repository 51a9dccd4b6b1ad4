use Rattle.std.proofs.Common.{◌≡◌, max, drop}
use Rattle.rs_types.specs.Growing.{field_width}
use Rattle.rs_types.proofs.holding.width_of_fields.Given as goal

abbrev pub invariant-loop-i : goal.invariant-loop-i
invariant-loop-i l = field_width l.fields ≡ max l.most (field_width (drop l.i l.fields))
