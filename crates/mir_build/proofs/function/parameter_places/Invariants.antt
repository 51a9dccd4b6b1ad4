use Rattle.std.proofs.Common.{◌≡◌, ◌++◌, drop, length, map}
use Rattle.mir_build.specs.Lowering.{whole, counted}
use Rattle.mir_build.proofs.function.parameter_places.Given as goal

abbrev pub invariant-loop-ty : goal.invariant-loop-ty
invariant-loop-ty l = record {
  places : l.all.items ++ map whole (counted l.local (drop l._ty-index l.params)) ≡ map whole (counted 1 l.params);
  count : length l.all.items ≡ l._ty-index;
}
