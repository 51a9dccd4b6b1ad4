use Rattle.std.proofs.Common.{◌≡◌, take}
use Rattle.rs_types.proofs.copying.copy_fields.Given as goal

abbrev pub invariant-loop-field : goal.invariant-loop-field
invariant-loop-field l = l.all ≡ take l.field-index l.fields
