use Rattle.std.proofs.Common.{◌≡◌, drop}
use Rattle.source_forms.specs.Forms.{is_among, in_each}
use Rattle.source_forms.specs.ItemForms.{unbuilt_condition}
use Rattle.source_forms.proofs.items.unbuilt_conditions.Given as goal

abbrev pub invariant-loop-condition : goal.invariant-loop-condition
invariant-loop-condition l = in_each (unbuilt_condition (is_among l.built)) l.conditions ≡ in_each (unbuilt_condition (is_among l.built)) (drop l.condition-index l.conditions)
