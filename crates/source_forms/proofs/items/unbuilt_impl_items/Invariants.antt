use Rattle.std.proofs.Common.{◌≡◌, drop}
use Rattle.source_forms.specs.Forms.{is_among, in_each}
use Rattle.source_forms.specs.ItemForms.{unbuilt_impl_item}
use Rattle.source_forms.proofs.items.unbuilt_impl_items.Given as goal

abbrev pub invariant-loop-item : goal.invariant-loop-item
invariant-loop-item l = in_each (unbuilt_impl_item (is_among l.built)) l.items ≡ in_each (unbuilt_impl_item (is_among l.built)) (drop l.item-index l.items)
