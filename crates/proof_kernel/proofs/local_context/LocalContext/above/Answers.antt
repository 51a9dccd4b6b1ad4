use Rattle.std.proofs.Common.{arith}
use Rattle.proof_kernel.proofs.DroppedLaw.{not_free_before}
use Rattle.proof_kernel.proofs.local_context.LocalContext.above.Goals as goal

pub loop-entry-preserved : goal.loop-entry-preserved
loop-entry-preserved c = record {
  least = omega (arith, c.loop-entry.invariant.least, c.in_ok-most.ensures.most);
  above = λ x l free.
      c.loop-entry.invariant.above x (omega (arith, l, c.in_ok-most.ensures.most))
      (not_free_before x c.in-Some.entry.now c.loop-entry.here.now c.in-Some.before.now c.in-Some.ensures (c.in_ok-most.ensures.above x l) free);
}
