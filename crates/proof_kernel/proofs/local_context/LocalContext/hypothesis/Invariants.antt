use Rattle.std.proofs.Common.{◌≡◌}
use Rattle.proof_kernel.specs.LocalContext.{hypotheses_in}
use Rattle.proof_kernel.specs.Rules.{hypothesis}
use Rattle.proof_kernel.proofs.LocalLaw.{or_else}
use Rattle.proof_kernel.proofs.local_context.LocalContext.hypothesis.Given as goal

abbrev pub invariant-loop-entry : goal.invariant-loop-entry
invariant-loop-entry l = hypothesis l.label (hypotheses_in l.self) ≡ or_else (hypothesis l.label (hypotheses_in l.here)) l.found
