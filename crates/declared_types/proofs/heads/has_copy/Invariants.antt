use Rattle.std.proofs.Common.{◌≡◌, drop}
use Rattle.declared_types.specs.DeclaredTypes.{has_copy}
use Rattle.declared_types.proofs.heads.has_copy.Given as goal

abbrev pub invariant-loop-name : goal.invariant-loop-name
invariant-loop-name l = has_copy l.names ≡ has_copy (drop l.name-index l.names)
