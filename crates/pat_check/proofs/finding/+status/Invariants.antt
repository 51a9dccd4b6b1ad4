use Rattle.std.proofs.Common.{◌≡◌, drop, length}
use Rattle.logic_term.specs.PatternView.{pat_size, pats_size, pats_of}
use Rattle.pat_check.specs.KnownView.{knowns_of}
use Rattle.pat_check.specs.Status.{also, statuses}
use Rattle.pat_check.specs.Findings.{finding_of}
use Rattle.pat_check.proofs.Parts.{from}
use Rattle.pat_check.proofs.finding.+status.Given as goal

abbrev pub decreases-status : goal.decreases-status
decreases-status l = pat_size l.pat.now

abbrev pub decreases-statuses : goal.decreases-statuses
decreases-statuses l = pats_size (pats_of l.pats.now)

abbrev pub invariant-statuses-loop-i : goal.invariant-statuses-loop-i
invariant-statuses-loop-i l = (length l.pats ≡ length l.knowns) × (also (finding_of l.found) (from l.variant l.i (drop l.i l.pats) (drop l.i l.knowns)) ≡ statuses l.variant (pats_of l.pats) (knowns_of l.knowns))
