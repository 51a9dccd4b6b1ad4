use Rattle.std.proofs.Common.{◌≡◌, drop}
use Rattle.declared_types.specs.DeclaredTypes.{derives_copy}
use Rattle.declared_types.proofs.heads.derives_copy.Given as goal

abbrev pub invariant-loop-attribute : goal.invariant-loop-attribute
invariant-loop-attribute l = derives_copy l.attributes ≡ derives_copy (drop l.attribute-index l.attributes)
