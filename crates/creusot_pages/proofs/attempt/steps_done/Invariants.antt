use Rattle.std.proofs.Common.{◌≡◌, ◌+◌, take}
use Rattle.proof_kernel.specs.Accepts.{Runs}
use Rattle.verify_core.specs.Verdict.{steps_of}
use Rattle.creusot_pages.proofs.attempt.steps_done.Given as goal

abbrev pub invariant-loop-i : goal.invariant-loop-i
invariant-loop-i l = record {
  runs : Runs l.fn.kernel (steps_of (take l.i l.steps)) l.kernel;
  number : l.kernel.step ≡ l.i + 1;
}
