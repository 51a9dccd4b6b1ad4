use Rattle.std.proofs.Common.{◌≡◌, drop}
use Rattle.source_forms.specs.Forms.{is_among, in_each}
use Rattle.source_forms.specs.ItemForms.{unbuilt_item}
use Rattle.source_forms.proofs.items.first_unbuilt.Given as goal

abbrev pub invariant-loop-item : goal.invariant-loop-item
invariant-loop-item l = in_each (unbuilt_item (is_among l.built)) l.items ≡ in_each (unbuilt_item (is_among l.built)) (drop l.item-index l.items)
