use Rattle.std.proofs.Common.{◌≡◌, drop}
use Rattle.source_forms.specs.Forms.{is_among, in_each}
use Rattle.source_forms.specs.TermForms.{unbuilt_binder}
use Rattle.source_forms.proofs.terms.unbuilt_binders.Given as goal

abbrev pub invariant-loop-binder : goal.invariant-loop-binder
invariant-loop-binder l = in_each (unbuilt_binder (is_among l.built)) l.binders ≡ in_each (unbuilt_binder (is_among l.built)) (drop l.binder-index l.binders)
