use Rattle.std.proofs.Common.{arith}
use Rattle.proof_kernel.specs.Dropped.{free_but_in}
use Rattle.proof_kernel.specs.Opened.{opened_hypotheses}
use Rattle.proof_kernel.proofs.OpenedFree.{free_at_known, free_past_known}
use Rattle.proof_kernel.proofs.OpenedLaw.{one_less}
use Rattle.proof_kernel.proofs.opened.Opened.is_free.Goals as goal

pub returns-then-branch : goal.returns-then-branch
returns-then-branch c =
    free_at_known c.args.name c.args.dropped.now c.args.self.now.step c.args.self.now.names c.loop-entry.here.now c.in-Some.before.now c.in-Some.entry.now c.in-Known.known c.loop-entry.part
    c.is_dropped-passed.result c.in_ok-is_free_in_known.field-0 c.in-Some.ensures c.in-Known.is c.loop-entry.invariant.place c.is_dropped-passed.ensures c.in_ok-is_free_in_known.ensures
    (free_but_in c.args.name c.args.dropped.now (opened_hypotheses c.args.self.now.step c.args.self.now.names c.args.self.now.context)) c.loop-entry.invariant.is c.if-branch.true

pub loop-entry-preserved-else-branch : goal.loop-entry-preserved-else-branch
loop-entry-preserved-else-branch c = record {
  place = omega (arith, one_less c.loop-entry.here.now c.in-Some.before.now c.in-Some.entry.now c.in-Known.known c.loop-entry.part c.in-Some.ensures c.in-Known.is c.loop-entry.invariant.place);
  is =
      free_past_known c.args.name c.args.dropped.now c.args.self.now.step c.args.self.now.names c.loop-entry.here.now c.in-Some.before.now c.in-Some.entry.now c.in-Known.known c.loop-entry.part
      c.is_dropped-passed.result c.in_ok-is_free_in_known.field-0 c.in-Some.ensures c.in-Known.is c.loop-entry.invariant.place c.is_dropped-passed.ensures c.in_ok-is_free_in_known.ensures
      (free_but_in c.args.name c.args.dropped.now (opened_hypotheses c.args.self.now.step c.args.self.now.names c.args.self.now.context)) c.loop-entry.invariant.is c.if-branch.false;
}
