use Rattle.std.proofs.Common.{◌≡◌, ◌≤◌, false}
use Rattle.text_core.specs.declared.name.Name.{Name}
use Rattle.proof_kernel.specs.Opened.{opened_hypotheses}
use Rattle.proof_kernel.specs.Rules.{free_in_hyps}
use Rattle.proof_kernel.proofs.opened.Opened.above.Given as goal

abbrev pub invariant-loop-entry : goal.invariant-loop-entry
invariant-loop-entry l = record {
  least : l.fn.least ≤ l.most;
  above : (x : Name) → l.most ≤ x.0 → free_in_hyps x (opened_hypotheses l.self.step l.self.names l.here) ≡ false → free_in_hyps x (opened_hypotheses l.self.step l.self.names l.self.context) ≡ false;
}
