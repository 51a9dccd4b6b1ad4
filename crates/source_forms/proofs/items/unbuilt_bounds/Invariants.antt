use Rattle.std.proofs.Common.{◌≡◌, drop}
use Rattle.source_forms.specs.Forms.{is_among, in_each}
use Rattle.source_forms.specs.ItemForms.{unbuilt_bound}
use Rattle.source_forms.proofs.items.unbuilt_bounds.Given as goal

abbrev pub invariant-loop-bound : goal.invariant-loop-bound
invariant-loop-bound l = in_each (unbuilt_bound (is_among l.built)) l.bounds ≡ in_each (unbuilt_bound (is_among l.built)) (drop l.bound-index l.bounds)
