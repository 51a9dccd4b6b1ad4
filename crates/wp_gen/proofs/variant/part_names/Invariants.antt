use Rattle.std.proofs.Common.{◌≡◌, ◌++◌, drop}
use Rattle.prophecy_logic.specs.Row.{part_names}
use Rattle.wp_gen.proofs.variant.part_names.Given as goal

abbrev pub invariant-loop-ty : goal.invariant-loop-ty
invariant-loop-ty l = record {
  number : l.number ≡ l.ty-index;
  so_far : part_names 0 l.types ≡ l.names.items ++ part_names l.ty-index (drop l.ty-index l.types);
}
