use Rattle.std.proofs.Common.{◌≡◌, max, drop}
use Rattle.rs_types.specs.Growing.{variant_width}
use Rattle.rs_types.proofs.holding.width_of_variants.Given as goal

abbrev pub invariant-loop-i : goal.invariant-loop-i
invariant-loop-i l = variant_width l.variants ≡ max l.most (variant_width (drop l.i l.variants))
