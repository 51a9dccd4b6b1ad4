use Rattle.std.proofs.Common.{◌≡◌, drop}
use Rattle.source_forms.specs.Forms.{is_among, in_each}
use Rattle.source_forms.specs.ItemForms.{unbuilt_generic}
use Rattle.source_forms.proofs.items.unbuilt_generics.Given as goal

abbrev pub invariant-loop-generic : goal.invariant-loop-generic
invariant-loop-generic l = in_each (unbuilt_generic (is_among l.built)) l.generics ≡ in_each (unbuilt_generic (is_among l.built)) (drop l.generic-index l.generics)
