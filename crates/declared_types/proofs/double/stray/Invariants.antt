use Rattle.std.proofs.Common.{◌≡◌, drop}
use Rattle.declared_types.specs.Declaring.{stray}
use Rattle.declared_types.proofs.double.stray.Given as goal

abbrev pub invariant-loop-attribute : goal.invariant-loop-attribute
invariant-loop-attribute l = stray l.derives l.attributes ≡ stray l.derives (drop l.attribute-index l.attributes)
