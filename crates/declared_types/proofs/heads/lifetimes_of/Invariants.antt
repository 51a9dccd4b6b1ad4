use Rattle.std.proofs.Common.{◌≡◌, ◌++◌, drop}
use Rattle.declared_types.specs.DeclaredTypes.{lifetimes_of}
use Rattle.declared_types.proofs.heads.lifetimes_of.Given as goal

abbrev pub invariant-loop-param : goal.invariant-loop-param
invariant-loop-param l = l.names.items ++ lifetimes_of (drop l.param-index l.params) ≡ lifetimes_of l.params
