use Rattle.std.proofs.Common.{◌∙◌, ap, arith}
use Rattle.proof_kernel.proofs.IntroLaw.{not_free_above}
use Rattle.proof_kernel.specs.Opened.{known_under}
use Rattle.proof_kernel.proofs.OpenedLaw.{not_free_at_known}
use Rattle.proof_kernel.proofs.opened.Opened.above.Goals as goal

pub loop-entry-preserved-in_ok-above_free : goal.loop-entry-preserved-in_ok-above_free
loop-entry-preserved-in_ok-above_free c = record {
  least = omega (arith, c.loop-entry.invariant.least, c.max-most.ensures);
  above = λ x l free.
      c.loop-entry.invariant.above x (omega (arith, l, c.max-most.ensures))
      (not_free_at_known x c.args.self.now.step c.args.self.now.names c.loop-entry.here.now c.in-Some.before.now c.in-Some.entry.now c.in-Known.known c.in_ok-hyp.hyp
      c.in-Some.ensures c.in-Known.is (c.in_ok-hyp.ensures ∙ ap (λ ns. known_under ns c.in-Some.before.now c.in-Known.known) c.as_slice.ensures) (not_free_above x c.in_ok-hyp.hyp (omega (arith, l, c.max-most.ensures, c.in_ok-above_free.ensures))) ∙ free);
}
