use Rattle.std.proofs.Common.{◌≡◌, drop}
use Rattle.source_forms.specs.Forms.{is_among, in_each}
use Rattle.source_forms.specs.ItemForms.{unbuilt_method}
use Rattle.source_forms.proofs.items.unbuilt_methods.Given as goal

abbrev pub invariant-loop-method : goal.invariant-loop-method
invariant-loop-method l = in_each (unbuilt_method (is_among l.built) l.form) l.methods ≡ in_each (unbuilt_method (is_among l.built) l.form) (drop l.method-index l.methods)
