use Rattle.std.proofs.Common.{◌∙◌}
use Rattle.proof_kernel.specs.Rules.{with_hyps}
use Rattle.proof_kernel.proofs.Labelled.{one_labelled, all_labelled}
use Rattle.proof_kernel.proofs.rules.with_hypotheses.Goals as goal

pub loop-i-preserved : goal.loop-i-preserved
loop-i-preserved c =
    one_labelled c.args.step c.in_ok-part.part c.loop-i.part c.loop-i.i c.loop-i.all c.in_ok-all-2.all (with_hyps c.args.step c.args.q.now c.args.hyps.now) c.args.hyps.now c.in_ok-hyp.hyp c.index-hyps-i.result
    c.loop-i-test.true (c.in_ok-hyp.ensures ∙ c.index-hyps-i.is) c.in_ok-all-2.ensures c.in_ok-part.ensures c.loop-i.invariant

pub returns : goal.returns
returns c =
    all_labelled c.args.step c.loop-i.part c.loop-i.i c.loop-i.all (with_hyps c.args.step c.args.q.now c.args.hyps.now) c.args.hyps.now c.loop-i-test.false c.loop-i.invariant
