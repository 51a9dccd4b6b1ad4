-- The parts of a tree are smaller than it.
use Rattle.std.specs.Prelude.{◌≡◌, ℕ, zero, suc, ◌+◌, ◌≤◌, ◌<◌, length, get_or, max, List, [], ◌∷◌}
use Rattle.std.proofs.Common.{arith}
use denote.Param.Weighed.{most}
use Rattle.mir_machine.specs.Tree.{Tree, trees_of}
use Rattle.mir_machine.specs.TreeView.{pointer_of, tree_of, tree_size, trees_size}
use Rattle.mir_machine.specs.declared.tree.PointerTree.{PointerTree}
use Rattle.mir_machine.specs.declared.tree.PointerTree.TheVariants as pointer
use Rattle.mir_machine.specs.declared.tree.TreeNode.{TreeNode}
use Rattle.mir_machine.specs.declared.tree.TreeNode.TheVariants as node
use Rattle.mir_machine.specs.declared.tree.Tree.TheDeep.{deep-TreeNode, deep-PointerTree}

most_trees : (ts : List (Tree (Unit {0}))) → most (λ t. tree_size t + 1) ts ≤ trees_size (trees_of ts)
most_trees [] = omega arith
most_trees (t ∷ ts) = omega (arith, most_trees ts)

smaller : (ts : List (Tree (Unit {0}))) (i : ℕ) (d : Tree (Unit {0})) → i < length ts → tree_size (get_or ts i d) < trees_size (trees_of ts)
smaller [] i d h = absurd (omega arith)
smaller (t ∷ ts) zero d h = omega arith
smaller (t ∷ ts) (suc i) d h = omega (arith, smaller ts i d (omega arith))

pub each_smaller : (ts : List (Tree (Unit {0}))) (i : ℕ) (t : Tree (Unit {0})) → t ≡ get_or ts i t → i < length ts → tree_size t < trees_size (trees_of ts)
each_smaller ts i t e h = rw e (smaller ts i t h)

pointer_falls : (p : PointerTree) → deep-PointerTree p ≤ tree_size (pointer_of p)
pointer_falls (pointer.Boxed t) = omega arith
pointer_falls (pointer.Shared at) = omega arith
pointer_falls (pointer.Unique at) = omega arith

pub falls : (n : TreeNode) → max (deep-TreeNode n) 0 ≤ tree_size (tree_of n)
falls (node.Int z) = omega arith
falls (node.Bool b) = omega arith
falls (node.Made c ts) = omega (arith, most_trees ts.items)
falls (node.Pointer p) = omega (arith, pointer_falls p.value)
falls node.Gone = omega arith
