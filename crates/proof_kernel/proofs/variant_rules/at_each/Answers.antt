use Rattle.std.proofs.Common.{refl}
use Rattle.proof_kernel.specs.VariantRules.{at_each}
use Rattle.std.specs.Prelude.{zip}
use Rattle.proof_kernel.proofs.VariantSteps.{one_each}
use Rattle.proof_kernel.proofs.variant_rules.at_each.Goals as goal

pub loop-i-preserved : goal.loop-i-preserved
loop-i-preserved c =
    one_each c.args.sort.now c.args.name c.args.t.now c.args.names.now c.args.sorts.now c.loop-i.i _ _ c.index-sorts-i.result c.index-sorts-i.result c.loop-i.all.items
    (at_each c.args.sort.now c.args.name c.args.t.now (zip c.args.names.now c.args.sorts.now)) c.loop-i-test.true c.requires refl c.index-sorts-i.is c.add_at.new.all.items c.in_ok-add_at.ensures c.loop-i.invariant
