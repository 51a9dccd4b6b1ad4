use Rattle.std.proofs.Common.{◌≡◌, ◌++◌, drop, map}
use Rattle.type_check.specs.VariableNames.{variable_name}
use Rattle.mir_build.specs.Lowering.{counted}
use Rattle.mir_build.proofs.contract.parameter_names.Given as goal

abbrev pub invariant-loop-ty : goal.invariant-loop-ty
invariant-loop-ty l = l.all ++ map variable_name (counted l.variable (drop l._ty-index l.params)) ≡ map variable_name (counted 0 l.params)
