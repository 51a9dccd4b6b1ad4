use Rattle.std.proofs.Common.{◌≡◌, ◌++◌, map, take}
use Rattle.type_check.specs.Arms.{variable_of}
use Rattle.type_check.proofs.arms.declare_names.Given as goal

abbrev pub invariant-loop-i : goal.invariant-loop-i
invariant-loop-i l = l.scope.items ≡ l.fn.scope.items ++ map variable_of (take l.i l.names)
