-- The trees that nodes stand for, and how deep trees are.
use Rattle.std.specs.Prelude.{ℕ, suc, max}
use Rattle.mir_machine.specs.Tree.{Tree, Trees, Int, Truth, Made, Boxed, Shared, Unique, Gone, no_trees, and_tree, trees_of}
use Rattle.mir_machine.specs.declared.tree.PointerTree.{PointerTree}
use Rattle.mir_machine.specs.declared.tree.PointerTree.TheVariants as pointer
use Rattle.mir_machine.specs.declared.tree.TreeNode.{TreeNode}
use Rattle.mir_machine.specs.declared.tree.TreeNode.TheVariants as node

abbrev pub pointer_of : PointerTree → Tree (Unit {0})
pointer_of (pointer.Boxed t) = Boxed t
pointer_of (pointer.Shared at) = Shared at
pointer_of (pointer.Unique at) = Unique tt at

abbrev pub tree_of : TreeNode → Tree (Unit {0})
tree_of (node.Int z) = Int z
tree_of (node.Bool b) = Truth b
tree_of (node.Made c ts) = Made c (trees_of ts.items)
tree_of (node.Pointer p) = pointer_of p.value
tree_of node.Gone = Gone

abbrev mutual
  pub tree_size : {K : Type 0} → Tree K → ℕ
  tree_size (Int z) = 1
  tree_size (Truth b) = 1
  tree_size (Made c ts) = suc (trees_size ts)
  tree_size (Boxed t) = suc (tree_size t)
  tree_size (Shared at) = 1
  tree_size (Unique k at) = 1
  tree_size Gone = 1

  pub trees_size : {K : Type 0} → Trees K → ℕ
  trees_size no_trees = 0
  trees_size (and_tree t ts) = max (suc (tree_size t)) (trees_size ts)
