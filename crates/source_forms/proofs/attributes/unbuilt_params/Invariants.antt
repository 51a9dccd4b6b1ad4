use Rattle.std.proofs.Common.{◌≡◌, drop}
use Rattle.source_forms.specs.Forms.{is_among, in_each}
use Rattle.source_forms.specs.ExprForms.{unbuilt_param}
use Rattle.source_forms.proofs.attributes.unbuilt_params.Given as goal

abbrev pub invariant-loop-param : goal.invariant-loop-param
invariant-loop-param l = in_each (unbuilt_param (is_among l.built)) l.params ≡ in_each (unbuilt_param (is_among l.built)) (drop l.param-index l.params)
