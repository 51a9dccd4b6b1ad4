use Rattle.std.proofs.Common.{◌≡◌, ◌-◌, ◌≤◌, max, map}
use Rattle.std.specs.List.{range_with_len}
use Rattle.mir_build.specs.Lowering.{whole}
use Rattle.mir_build.proofs.builder.places.Given as goal

abbrev pub invariant-loop-x : goal.invariant-loop-x
invariant-loop-x l = record {
  places : l.all ≡ map whole (range_with_len l.first (l.x - l.first));
  within : l.x ≤ max l.first l.end;
}
