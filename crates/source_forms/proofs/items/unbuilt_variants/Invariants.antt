use Rattle.std.proofs.Common.{◌≡◌, drop}
use Rattle.source_forms.specs.Forms.{is_among, in_each}
use Rattle.source_forms.specs.ItemForms.{unbuilt_variant}
use Rattle.source_forms.proofs.items.unbuilt_variants.Given as goal

abbrev pub invariant-loop-variant : goal.invariant-loop-variant
invariant-loop-variant l = in_each (unbuilt_variant (is_among l.built)) l.variants ≡ in_each (unbuilt_variant (is_among l.built)) (drop l.variant-index l.variants)
