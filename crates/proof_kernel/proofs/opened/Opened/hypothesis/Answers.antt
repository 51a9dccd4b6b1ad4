use Rattle.std.proofs.Common.{sym, arith, ap, ◌∙◌}
use Rattle.proof_kernel.specs.Opened.{known_under, opened_hypotheses}
use Rattle.proof_kernel.specs.Rules.{hypothesis}
use Rattle.proof_kernel.proofs.OpenedLaw.{none_of_step, past_known, at_known, one_less}
use Rattle.proof_kernel.proofs.opened.Opened.hypothesis.Goals as goal

pub returns-then-label-self : goal.returns-then-label-self
returns-then-label-self c = sym (none_of_step c.args.label c.args.self.now.step c.args.self.now.names c.args.self.now.context c.if-label-self.true)

pub returns-then-part-label : goal.returns-then-part-label
returns-then-part-label c =
    at_known c.args.label c.args.self.now.step c.args.self.now.names c.loop-entry.here.now c.in-Some.before.now c.in-Some.entry.now c.in-Known.known c.loop-entry.part
    (hypothesis c.args.label (opened_hypotheses c.args.self.now.step c.args.self.now.names c.args.self.now.context)) c.in_ok-hyp.hyp
    c.in-Some.ensures c.in-Known.is c.loop-entry.invariant.place c.if-part-label.true (omega (arith, c.if-label-self.false)) (c.in_ok-hyp.ensures ∙ ap (λ ns. known_under ns c.in-Some.before.now c.in-Known.known) c.as_slice.ensures) c.loop-entry.invariant.is

pub loop-entry-preserved-else-part-label : goal.loop-entry-preserved-else-part-label
loop-entry-preserved-else-part-label c = record {
  place = omega (arith, one_less c.loop-entry.here.now c.in-Some.before.now c.in-Some.entry.now c.in-Known.known c.loop-entry.part c.in-Some.ensures c.in-Known.is c.loop-entry.invariant.place);
  is = past_known c.args.label c.args.self.now.step c.args.self.now.names c.loop-entry.here.now c.in-Some.before.now c.in-Some.entry.now c.in-Known.known c.loop-entry.part
      (hypothesis c.args.label (opened_hypotheses c.args.self.now.step c.args.self.now.names c.args.self.now.context))
      c.in-Some.ensures c.in-Known.is c.loop-entry.invariant.place c.if-part-label.false c.loop-entry.invariant.is;
}
