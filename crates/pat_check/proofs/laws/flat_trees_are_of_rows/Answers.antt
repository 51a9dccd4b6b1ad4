use Rattle.pat_check.proofs.FlatTrees.{flat_is_tree, tree_is_flat}
use Rattle.pat_check.proofs.laws.flat_trees_are_of_rows.Goals as goal

pub returns : goal.returns
returns c = λ ds t ps D f. (tree_is_flat ds t ps D f, flat_is_tree ds t ps D f)
