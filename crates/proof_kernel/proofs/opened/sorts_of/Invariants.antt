use Rattle.std.proofs.Common.{◌≡◌, ◌++◌, reverse}
use Rattle.proof_kernel.specs.Opened.{sorts_in}
use Rattle.proof_kernel.proofs.opened.sorts_of.Given as goal

abbrev pub invariant-loop-entry : goal.invariant-loop-entry
invariant-loop-entry l = sorts_in l.context ≡ sorts_in l.here ++ reverse l.sorts.items
