use Rattle.std.proofs.Common.{◌≡◌, drop}
use Rattle.logic_term.specs.Subst.{look}
use Rattle.logic_term.proofs.placed.entry_for.Given as goal

abbrev pub invariant-loop-i : goal.invariant-loop-i
invariant-loop-i l = look l.sub l.name ≡ look (drop l.i l.sub) l.name
