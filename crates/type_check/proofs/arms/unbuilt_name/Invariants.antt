use Rattle.std.proofs.Common.{◌≡◌, drop}
use Rattle.type_check.specs.Arms.{unbuilt_name}
use Rattle.type_check.proofs.arms.unbuilt_name.Given as goal

abbrev pub invariant-loop-name : goal.invariant-loop-name
invariant-loop-name l = unbuilt_name l.types (drop l.name-index l.names) ≡ unbuilt_name l.types l.names
