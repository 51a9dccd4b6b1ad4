use Rattle.std.proofs.Common.{◌≡◌, take}
use Rattle.rs_types.proofs.copying.copy_variants.Given as goal

abbrev pub invariant-loop-variant : goal.invariant-loop-variant
invariant-loop-variant l = l.all ≡ take l.variant-index l.variants
