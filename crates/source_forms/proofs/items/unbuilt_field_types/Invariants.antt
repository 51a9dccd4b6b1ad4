use Rattle.std.proofs.Common.{◌≡◌, drop}
use Rattle.source_forms.specs.Forms.{is_among, in_each}
use Rattle.source_forms.specs.ItemForms.{unbuilt_field_type}
use Rattle.source_forms.proofs.items.unbuilt_field_types.Given as goal

abbrev pub invariant-loop-ty : goal.invariant-loop-ty
invariant-loop-ty l = in_each (unbuilt_field_type (is_among l.built)) l.types ≡ in_each (unbuilt_field_type (is_among l.built)) (drop l.ty-index l.types)
