use Rattle.std.proofs.Common.{◌≡◌, drop}
use Rattle.logic_term.specs.Subst.{above_entries}
use Rattle.logic_term.proofs.subst.above_entries.Given as goal

abbrev pub invariant-loop-i : goal.invariant-loop-i
invariant-loop-i l = l.most ≡ above_entries (drop l.i l.sub)
