use Rattle.std.proofs.Common.{take}
use Rattle.pat_check.specs.KnownView.{known_size, knowns_size, knowns_of}
use Rattle.pat_check.specs.PatValueView.{pat_values_of}
use Rattle.pat_check.specs.Settled.{SettleAll}
use Rattle.pat_check.proofs.coverage.+settled.Given as goal

abbrev pub decreases-settled : goal.decreases-settled
decreases-settled l = known_size l.known.now

abbrev pub decreases-settled_all : goal.decreases-settled_all
decreases-settled_all l = knowns_size (knowns_of l.parts.now)

abbrev pub invariant-settled_all-loop-i : goal.invariant-settled_all-loop-i
invariant-settled_all-loop-i l = SettleAll (knowns_of (take l.i l.parts)) (pat_values_of l.all.items)
