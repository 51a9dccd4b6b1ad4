use Rattle.std.proofs.Common.{◌≡◌, drop}
use Rattle.source_forms.specs.Forms.{is_among}
use Rattle.source_forms.proofs.place.is_among.Given as goal

abbrev pub invariant-loop-one : goal.invariant-loop-one
invariant-loop-one l = is_among l.forms l.form ≡ is_among (drop l.one-index l.forms) l.form
