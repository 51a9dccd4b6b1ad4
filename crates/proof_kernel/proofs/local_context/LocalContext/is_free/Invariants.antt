use Rattle.std.proofs.Common.{◌≡◌}
use Rattle.proof_kernel.specs.Dropped.{free_but_in}
use Rattle.proof_kernel.specs.LocalContext.{hypotheses_in}
use Rattle.proof_kernel.specs.Rules.{free_in_hyps}
use Rattle.proof_kernel.proofs.local_context.LocalContext.is_free.Given as goal

abbrev pub invariant-loop-entry : goal.invariant-loop-entry
invariant-loop-entry l = free_in_hyps l.name (hypotheses_in l.self) ≡ free_but_in l.name l.dropped.items (hypotheses_in l.here)
