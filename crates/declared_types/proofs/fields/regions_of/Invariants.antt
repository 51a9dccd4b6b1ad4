use Rattle.std.proofs.Common.{◌≡◌, ◌++◌, ◌-◌}
use Rattle.declared_types.specs.DeclaredTypes.{regions_from}
use Rattle.declared_types.proofs.fields.regions_of.Given as goal

abbrev pub invariant-loop-i : goal.invariant-loop-i
invariant-loop-i l = l.made.items ++ regions_from (l.count - l.i) l.i ≡ regions_from l.count 0
