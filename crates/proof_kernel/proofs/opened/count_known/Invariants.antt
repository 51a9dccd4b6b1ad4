use Rattle.std.proofs.Common.{◌≡◌, ◌+◌}
use Rattle.proof_kernel.specs.Opened.{count_known}
use Rattle.proof_kernel.proofs.opened.count_known.Given as goal

abbrev pub invariant-loop-entry : goal.invariant-loop-entry
invariant-loop-entry l = count_known l.context ≡ l.count + count_known l.here
