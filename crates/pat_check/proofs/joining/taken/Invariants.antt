use Rattle.std.proofs.Common.{◌≡◌, ◌++◌, reverse, length}
use Rattle.pat_check.proofs.joining.taken.Given as goal

abbrev pub invariant-loop-i : goal.invariant-loop-i
invariant-loop-i l = (l.fn.made.items ≡ l.made.items ++ reverse l.trees.items) × (length l.trees.items ≡ l.i)
