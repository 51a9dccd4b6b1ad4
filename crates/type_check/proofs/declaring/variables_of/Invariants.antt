use Rattle.std.proofs.Common.{◌≡◌, drop}
use Rattle.type_check.specs.Answers.{each}
use Rattle.type_check.specs.Written.{param_of}
use Rattle.type_check.proofs.PartByPart.{each_left}
use Rattle.type_check.proofs.declaring.variables_of.Given as goal

abbrev pub invariant-loop-param : goal.invariant-loop-param
invariant-loop-param l = each (param_of l.types) l.params ≡ each_left (param_of l.types) (drop l.param-index l.params) l.variables.items
