use Rattle.std.proofs.Common.{◌≡◌, take}
use Rattle.logic_term.specs.PatternView.{pat_size, pats_size, pats_of}
use Rattle.pat_check.proofs.copying.+copied.Given as goal

abbrev pub decreases-copied : goal.decreases-copied
decreases-copied l = pat_size l.pattern.now

abbrev pub decreases-copied_all : goal.decreases-copied_all
decreases-copied_all l = pats_size (pats_of l.parts.now)

abbrev pub invariant-copied_all-loop-i : goal.invariant-copied_all-loop-i
invariant-copied_all-loop-i l = l.all.items ≡ take l.i l.parts
