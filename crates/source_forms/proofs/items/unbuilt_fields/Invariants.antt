use Rattle.std.proofs.Common.{◌≡◌, drop}
use Rattle.source_forms.specs.Forms.{is_among, in_each}
use Rattle.source_forms.specs.ItemForms.{unbuilt_field}
use Rattle.source_forms.proofs.items.unbuilt_fields.Given as goal

abbrev pub invariant-loop-field : goal.invariant-loop-field
invariant-loop-field l = in_each (unbuilt_field (is_among l.built)) l.fields ≡ in_each (unbuilt_field (is_among l.built)) (drop l.field-index l.fields)
