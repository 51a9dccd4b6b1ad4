-- The parts of types are smaller than the whole.
use Rattle.std.specs.Prelude.{◌+◌, ◌≤◌, max, List, [], ◌∷◌}
use Rattle.std.proofs.Common.{arith}
use denote.Param.Weighed.{most}
use Rattle.text_core.specs.declared.span.Span.{Span}
use Rattle.source_trees.specs.TypeTree.{TypeTree}
use Rattle.source_trees.specs.TypeTreeView.{type_tree_of, types_of, type_arguments_of, type_tree_size, types_size, type_arguments_size}
use Rattle.source_trees.specs.declared.types.TypeNode.{TypeNode}
use Rattle.source_trees.specs.declared.types.TypeNode.TheVariants as node
use Rattle.source_trees.specs.declared.types.TypeArgument.{TypeArgument}
use Rattle.source_trees.specs.declared.types.TypeArgument.TheVariants as argument
use Rattle.source_trees.specs.declared.types.TypeTree.TheDeep.{deep-TypeNode, deep-TypeArgument}

most_types : (xs : List TypeTree) → most (λ x. type_tree_size x + 1) xs ≤ types_size (types_of xs)
most_types [] = omega arith
most_types (x ∷ xs) = omega (arith, most_types xs)

most_arguments : (xs : List TypeArgument) → most (λ x. deep-TypeArgument x) xs ≤ type_arguments_size (type_arguments_of xs)
most_arguments [] = omega arith
most_arguments (argument.Lifetime lifetime ∷ xs) = omega (arith, most_arguments xs)
most_arguments (argument.Type ty ∷ xs) = omega (arith, most_arguments xs)

pub falls : (s : Span) (n : TypeNode) → max (deep-TypeNode n) 0 ≤ type_tree_size (type_tree_of s n)
falls s (node.Named a0 a1) = omega (arith, most_arguments a1.items)
falls s (node.Tuple a0) = omega (arith, most_types a0.items)
falls s (node.Reference a0 a1 a2) = omega arith
falls s node.SelfType = omega arith
falls s node.SelfView = omega arith
