use Rattle.std.proofs.Common.{◌≡◌, ◌+◌, ◌*◌, take}
use Rattle.mir_machine.specs.Tree.{trees_of}
use Rattle.mir_machine.specs.TreeView.{pointer_of, tree_size, trees_size}
use Rattle.mir_machine.proofs.tree.+copy_tree.Given as goal

abbrev pub decreases-Tree::copy : goal.decreases-Tree::copy
decreases-Tree::copy l = 2 * tree_size l.self.now + 1

abbrev pub decreases-PointerTree::copied : goal.decreases-PointerTree::copied
decreases-PointerTree::copied l = 2 * tree_size (pointer_of l.self.now)

abbrev pub decreases-copy_trees : goal.decreases-copy_trees
decreases-copy_trees l = 2 * trees_size (trees_of l.trees.now)

abbrev pub invariant-copy_trees-loop-i : goal.invariant-copy_trees-loop-i
invariant-copy_trees-loop-i l = l.copies.items ≡ take l.i l.trees
