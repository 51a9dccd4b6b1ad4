use Rattle.std.proofs.Common.{◌≡◌, ◌++◌, drop}
use Rattle.declared_types.specs.DeclaredTypes.{parameters_of}
use Rattle.declared_types.proofs.heads.parameters_of.Given as goal

abbrev pub invariant-loop-param : goal.invariant-loop-param
invariant-loop-param l = l.names.items ++ parameters_of (drop l.param-index l.params) ≡ parameters_of l.params
