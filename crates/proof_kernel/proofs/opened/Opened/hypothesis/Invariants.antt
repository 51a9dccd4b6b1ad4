use Rattle.std.proofs.Common.{◌≡◌}
use Rattle.proof_kernel.specs.Opened.{count_known, opened_hypotheses}
use Rattle.proof_kernel.specs.Rules.{hypothesis}
use Rattle.proof_kernel.proofs.opened.Opened.hypothesis.Given as goal

abbrev pub invariant-loop-entry : goal.invariant-loop-entry
invariant-loop-entry l = record {
  place : l.part ≡ count_known l.here;
  is : hypothesis l.label (opened_hypotheses l.self.step l.self.names l.self.context) ≡ hypothesis l.label (opened_hypotheses l.self.step l.self.names l.here);
}
