use Rattle.std.proofs.Common.{◌≡◌, drop}
use Rattle.constructors.specs.Constructors.{variant_from}
use Rattle.constructors.proofs.finding.variant_among.Given as goal

abbrev pub invariant-loop-variant : goal.invariant-loop-variant
invariant-loop-variant l = variant_from l.number l.name (drop l.variant-index l.variants) ≡ variant_from 0 l.name l.variants
