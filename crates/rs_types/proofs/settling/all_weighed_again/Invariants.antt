use Rattle.std.proofs.Common.{◌≡◌, map, take}
use Rattle.rs_types.specs.Weighing.{reweighed}
use Rattle.rs_types.proofs.settling.all_weighed_again.Given as goal

abbrev pub invariant-loop-i : goal.invariant-loop-i
invariant-loop-i l = l.again.items ≡ map (reweighed l.question l.decls l.cases) (take l.i l.cases)
