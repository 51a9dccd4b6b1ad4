use Rattle.std.proofs.Common.{arith, get_or, refl}
use Rattle.proof_kernel.specs.Opened.{renames_from}
use Rattle.proof_kernel.proofs.OpenedLaw.{one_more_name, all_renamed}
use Rattle.proof_kernel.proofs.opened.renames.Goals as goal

pub loop-i-preserved : goal.loop-i-preserved
loop-i-preserved c = record {
  place = omega (arith, c.loop-i.invariant.place);
  within = omega (arith, c.loop-i.invariant.within, c.if-number-count.false);
  renames = one_more_name c.loop-i.number c.args.count c.loop-i.i 0 c.args.names.now (get_or c.args.names.now c.loop-i.i (record { 0 = 0 })) c.loop-i.all.items c.push.new.self.items (renames_from 0 c.args.count c.args.names.now)
      c.loop-i-test.true refl (omega (arith, c.loop-i.invariant.within, c.if-number-count.false)) c.loop-i.invariant.renames c.in_ok-push.ensures.items;
}

pub returns : goal.returns
returns c =
    all_renamed c.loop-i.number c.args.count c.loop-i.i c.args.names.now c.loop-i.all.items (renames_from 0 c.args.count c.args.names.now)
    (omega (arith, c.loop-i-test.false)) c.loop-i.invariant.renames
