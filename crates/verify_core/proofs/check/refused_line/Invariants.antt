use Rattle.std.proofs.Common.{◌≡◌, ◌+◌, take}
use Rattle.proof_kernel.specs.Accepts.{Runs, begun}
use Rattle.verify_core.specs.Verdict.{steps_of}
use Rattle.verify_core.proofs.check.refused_line.Given as goal

abbrev pub invariant-loop-numbered : goal.invariant-loop-numbered
invariant-loop-numbered l = record {
  runs : Runs (begun l.tables l.obligation) (steps_of (take l.numbered-index l.steps)) l.kernel;
  number : l.kernel.step ≡ l.numbered-index + 1;
}
