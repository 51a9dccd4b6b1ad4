use Rattle.pat_check.specs.PatValueView.{pat_value_size, pat_values_size, pat_values_of}
use Rattle.pattern_tests.proofs.texts.+value.Given as goal

abbrev pub decreases-push_value : goal.decreases-push_value
decreases-push_value l = pat_value_size l.value.now

abbrev pub decreases-push_values : goal.decreases-push_values
decreases-push_values l = pat_values_size (pat_values_of l.values.now)
