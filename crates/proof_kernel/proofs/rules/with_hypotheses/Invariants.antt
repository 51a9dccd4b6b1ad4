use Rattle.std.proofs.Common.{◌≡◌, drop}
use Rattle.proof_kernel.specs.Rules.{with_hyps}
use Rattle.proof_kernel.proofs.Labelled.{with_rest}
use Rattle.proof_kernel.proofs.rules.with_hypotheses.Given as goal

abbrev pub invariant-loop-i : goal.invariant-loop-i
invariant-loop-i l = with_rest l.step l.part l.all (drop l.i l.hyps) ≡ with_hyps l.step l.q l.hyps
