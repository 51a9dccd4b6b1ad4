use Rattle.logic_term.specs.PatternView.{pat_size, pats_size, pats_of}
use Rattle.pat_tests.proofs.printed.+pattern.Given as goal

abbrev pub decreases-push_pattern : goal.decreases-push_pattern
decreases-push_pattern l = pat_size l.pattern.now

abbrev pub decreases-push_patterns : goal.decreases-push_patterns
decreases-push_patterns l = pats_size (pats_of l.patterns.now)
