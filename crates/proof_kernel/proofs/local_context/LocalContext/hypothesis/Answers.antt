use Rattle.std.proofs.Common.{◌∙◌, sym}
use Rattle.proof_kernel.specs.LocalContext.{hypotheses_in}
use Rattle.proof_kernel.specs.Rules.{hypothesis}
use Rattle.proof_kernel.proofs.LocalLaw.{hypothesis_dropped, hypothesis_left, hypothesis_seen}
use Rattle.proof_kernel.proofs.local_context.LocalContext.hypothesis.Goals as goal

pub returns-then-drops : goal.returns-then-drops
returns-then-drops c =
    sym (hypothesis_dropped c.args.label c.in-Some.entry.now c.loop-entry.here.now c.in-Some.before.now (hypothesis c.args.label (hypotheses_in c.args.self.now)) c.loop-entry.found
    (sym c.drops.ensures ∙ c.if-drops.true) c.in-Some.ensures c.loop-entry.invariant)

pub loop-entry-preserved : goal.loop-entry-preserved
loop-entry-preserved c =
    hypothesis_left c.args.label c.in-Some.before.now (hypothesis c.args.label (hypotheses_in c.args.self.now)) c.loop-entry.found c.in_ok-seen.seen c.first_of-found.result c.first_of-found.ensures
    (hypothesis_seen c.args.label c.in-Some.entry.now c.loop-entry.here.now c.in-Some.before.now (hypothesis c.args.label (hypotheses_in c.args.self.now)) c.loop-entry.found c.in_ok-seen.seen
    (sym c.drops.ensures ∙ c.if-drops.false) c.in-Some.ensures c.in_ok-seen.ensures c.loop-entry.invariant)
