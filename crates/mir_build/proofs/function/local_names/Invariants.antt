use Rattle.std.proofs.Common.{◌≡◌, ◌<◌, ◌^◌, ◌++◌, drop, map}
use Rattle.mir_build.specs.Lowering.{local_name, counted}
use Rattle.mir_build.proofs.function.local_names.Given as goal

abbrev pub invariant-loop-ty : goal.invariant-loop-ty
invariant-loop-ty l = record {
  names : l.all ++ map local_name (counted l.local (drop l._ty-index l.locals)) ≡ map local_name (counted 0 l.locals);
  number : l.local ≡ l._ty-index;
  small : l.local < 2 ^ 32;
}
