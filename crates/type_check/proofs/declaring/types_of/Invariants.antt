use Rattle.std.proofs.Common.{◌≡◌, map, take}
use Rattle.type_check.specs.Checked.{type_of}
use Rattle.type_check.proofs.declaring.types_of.Given as goal

abbrev pub invariant-loop-variable : goal.invariant-loop-variable
invariant-loop-variable l = l.types.items ≡ map type_of (take l.variable-index l.variables)
