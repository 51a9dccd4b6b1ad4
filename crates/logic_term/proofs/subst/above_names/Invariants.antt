use Rattle.std.proofs.Common.{◌≡◌, [], take}
use Rattle.logic_term.specs.Subst.{above_entries, numbers_before}
use Rattle.logic_term.proofs.subst.above_names.Given as goal

abbrev pub invariant-loop-i : goal.invariant-loop-i
invariant-loop-i l = l.most ≡ above_entries (numbers_before (take l.i l.names) [])
