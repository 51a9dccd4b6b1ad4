use Rattle.std.proofs.Common.{◌≡◌}
use Rattle.proof_kernel.specs.Dropped.{free_but_in}
use Rattle.proof_kernel.specs.Opened.{count_known, opened_hypotheses}
use Rattle.proof_kernel.proofs.opened.Opened.is_free.Given as goal

abbrev pub invariant-loop-entry : goal.invariant-loop-entry
invariant-loop-entry l = record {
  place : l.part ≡ count_known l.here;
  is : free_but_in l.name l.dropped (opened_hypotheses l.self.step l.self.names l.self.context) ≡ free_but_in l.name l.dropped (opened_hypotheses l.self.step l.self.names l.here);
}
