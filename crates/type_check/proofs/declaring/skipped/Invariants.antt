use Rattle.std.proofs.Common.{◌≡◌, drop}
use Rattle.type_check.specs.Checked.{skipped}
use Rattle.type_check.proofs.declaring.skipped.Given as goal

abbrev pub invariant-loop-attribute : goal.invariant-loop-attribute
invariant-loop-attribute l = skipped l.attributes ≡ skipped (drop l.attribute-index l.attributes)
