use Rattle.std.proofs.Common.{◌≡◌, drop}
use Rattle.mir_machine.specs.Memory.{tree_in}
use Rattle.mir_machine.proofs.memory.tree_in.Given as goal

abbrev pub invariant-loop-n : goal.invariant-loop-n
invariant-loop-n l = tree_in l.path l.tree ≡ tree_in (drop l.n-index l.path) l.here
