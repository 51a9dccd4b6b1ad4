-- The types that nodes stand for, and how deep they are.
use Rattle.std.specs.Prelude.{ℕ, suc, max, List, [], ◌∷◌}
use Rattle.text_core.specs.declared.span.Span.{Span}
use Rattle.source_trees.specs.TypeTree.{TypeTree, named, tuple, reference, self_type, self_view, Types, none, more, TypeArguments, no_arguments, with_lifetime, with_type}
use Rattle.source_trees.specs.declared.types.TypeArgument.{TypeArgument}
use Rattle.source_trees.specs.declared.types.TypeArgument.TheVariants as argument
use Rattle.source_trees.specs.declared.types.TypeNode.{TypeNode}
use Rattle.source_trees.specs.declared.types.TypeNode.TheVariants as node

abbrev pub types_of : List TypeTree → Types
types_of [] = none
types_of (x ∷ xs) = more x (types_of xs)

abbrev pub type_arguments_of : List TypeArgument → TypeArguments
type_arguments_of [] = no_arguments
type_arguments_of (argument.Lifetime lifetime ∷ xs) = with_lifetime lifetime (type_arguments_of xs)
type_arguments_of (argument.Type ty ∷ xs) = with_type ty (type_arguments_of xs)

abbrev pub type_tree_of : Span → TypeNode → TypeTree
type_tree_of s (node.Named a0 a1) = named s a0 (type_arguments_of a1.items)
type_tree_of s (node.Tuple a0) = tuple s (types_of a0.items)
type_tree_of s (node.Reference a0 a1 a2) = reference s a0 a1 a2
type_tree_of s node.SelfType = self_type s
type_tree_of s node.SelfView = self_view s

abbrev mutual
  pub type_tree_size : TypeTree → ℕ
  type_tree_size (named a0 a1 a2) = suc (type_arguments_size a2)
  type_tree_size (tuple a0 a1) = suc (types_size a1)
  type_tree_size (reference a0 a1 a2 a3) = suc (type_tree_size a3)
  type_tree_size (self_type a0) = 1
  type_tree_size (self_view a0) = 1

  pub types_size : Types → ℕ
  types_size none = 1
  types_size (more a0 a1) = suc (max (type_tree_size a0) (types_size a1))

  pub type_arguments_size : TypeArguments → ℕ
  type_arguments_size no_arguments = 1
  type_arguments_size (with_lifetime a0 a1) = suc (type_arguments_size a1)
  type_arguments_size (with_type a0 a1) = suc (max (type_tree_size a0) (type_arguments_size a1))

abbrev pub span_of : TypeTree → Span
span_of (named s a0 a1) = s
span_of (tuple s a0) = s
span_of (reference s a0 a1 a2) = s
span_of (self_type s) = s
span_of (self_view s) = s
