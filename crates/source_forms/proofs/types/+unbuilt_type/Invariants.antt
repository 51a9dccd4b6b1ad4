use Rattle.std.proofs.Common.{◌≡◌, ◌+◌, ◌*◌, drop}
use Rattle.source_trees.specs.TypeTreeView.{types_of, type_arguments_of, type_tree_size, types_size, type_arguments_size}
use Rattle.source_forms.specs.Forms.{is_among, in_each}
use Rattle.source_forms.specs.TypeForms.{unbuilt_type, unbuilt_types, unbuilt_arguments}
use Rattle.source_forms.proofs.Sizes.{argument_size}
use Rattle.source_forms.proofs.types.+unbuilt_type.Given as goal

abbrev pub decreases-unbuilt_type : goal.decreases-unbuilt_type
decreases-unbuilt_type l = 2 * type_tree_size l.ty.now

abbrev pub decreases-unbuilt_types : goal.decreases-unbuilt_types
decreases-unbuilt_types l = 2 * types_size (types_of l.types.now)

abbrev pub invariant-unbuilt_types-loop-ty : goal.invariant-unbuilt_types-loop-ty
invariant-unbuilt_types-loop-ty l = record {
  tree : unbuilt_types (is_among l.built) (types_of l.types) ≡ unbuilt_types (is_among l.built) (types_of (drop l.ty-index l.types));
  list : in_each (unbuilt_type (is_among l.built)) l.types ≡ in_each (unbuilt_type (is_among l.built)) (drop l.ty-index l.types);
}

abbrev pub decreases-unbuilt_arguments : goal.decreases-unbuilt_arguments
decreases-unbuilt_arguments l = 2 * type_arguments_size (type_arguments_of l.arguments.now)

abbrev pub decreases-unbuilt_argument : goal.decreases-unbuilt_argument
decreases-unbuilt_argument l = 2 * argument_size l.argument.now + 1

abbrev pub invariant-unbuilt_arguments-loop-argument : goal.invariant-unbuilt_arguments-loop-argument
invariant-unbuilt_arguments-loop-argument l =
    unbuilt_arguments (is_among l.built) (type_arguments_of l.arguments) ≡ unbuilt_arguments (is_among l.built) (type_arguments_of (drop l.argument-index l.arguments))
