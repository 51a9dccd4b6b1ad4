use Rattle.std.proofs.Common.{◌+◌, ◌*◌, max}
use Rattle.pat_check.specs.DecisionView.{decision_size, decisions_size, decisions_of}
use Rattle.pattern_tests.proofs.texts.+tree.Given as goal

abbrev pub decreases-push_tree : goal.decreases-push_tree
decreases-push_tree l = 2 * decision_size l.tree.now

abbrev pub decreases-push_trees : goal.decreases-push_trees
decreases-push_trees l = 2 * decisions_size (decisions_of l.trees.now) + 1

abbrev pub decreases-push_both : goal.decreases-push_both
decreases-push_both l = 2 * max (decision_size l.first.now) (decision_size l.second.now) + 1
