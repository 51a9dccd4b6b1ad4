use Rattle.std.proofs.Common.{◌≡◌, ◌+◌, ◌*◌}
use Rattle.source_trees.specs.TypeTreeView.{type_tree_size, types_of, types_size, type_arguments_of, type_arguments_size}
use Rattle.logic_elab.specs.WrittenSorts.{written_sorts, argument_sorts}
use Rattle.logic_elab.proofs.ArgumentsByPart as arguments
use Rattle.logic_elab.proofs.SortByPart.{continued}
use Rattle.logic_elab.proofs.written_sorts.+written_sort.Given as goal

abbrev pub decreases-written_sort : goal.decreases-written_sort
decreases-written_sort l = 3 * type_tree_size l.written.now

abbrev pub decreases-named_sort : goal.decreases-named_sort
decreases-named_sort l = 3 * type_arguments_size (type_arguments_of l.arguments.now) + 2

abbrev pub decreases-argument_sorts : goal.decreases-argument_sorts
decreases-argument_sorts l = 3 * type_arguments_size (type_arguments_of l.arguments.now)

abbrev pub decreases-written_sorts : goal.decreases-written_sorts
decreases-written_sorts l = 3 * types_size (types_of l.written.now)

abbrev pub invariant-written_sorts-loop-i : goal.invariant-written_sorts-loop-i
invariant-written_sorts-loop-i l = written_sorts l.declared (types_of l.written) ≡ continued l.declared l.written l.i l.sorts.items

abbrev pub invariant-argument_sorts-loop-i : goal.invariant-argument_sorts-loop-i
invariant-argument_sorts-loop-i l = argument_sorts l.declared l.span (type_arguments_of l.arguments) ≡ arguments.continued l.declared l.span l.arguments l.i l.sorts.items
