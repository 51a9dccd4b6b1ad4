use Rattle.std.proofs.Common.{◌≡◌, drop}
use Rattle.source_forms.specs.Forms.{is_among, in_each}
use Rattle.source_forms.specs.ExprForms.{unbuilt_attribute}
use Rattle.source_forms.proofs.attributes.unbuilt_attributes.Given as goal

abbrev pub invariant-loop-attribute : goal.invariant-loop-attribute
invariant-loop-attribute l = in_each (unbuilt_attribute (is_among l.built) l.forms) l.attributes ≡ in_each (unbuilt_attribute (is_among l.built) l.forms) (drop l.attribute-index l.attributes)
