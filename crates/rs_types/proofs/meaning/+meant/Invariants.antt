use Rattle.std.proofs.Common.{◌≡◌, ◌+◌, ◌*◌, drop}
use Rattle.source_trees.specs.TypeTreeView.{types_of, type_arguments_of, type_tree_size, types_size, type_arguments_size}
use Rattle.rs_types.specs.Meant.{scope_of, meant_all, meant_arguments}
use Rattle.rs_types.proofs.PartByPart.{behind, from_argument}
use Rattle.rs_types.proofs.meaning.+meant.Given as goal

abbrev pub decreases-meant : goal.decreases-meant
decreases-meant l = 2 * type_tree_size l.written.now + 1

abbrev pub decreases-meant_all : goal.decreases-meant_all
decreases-meant_all l = 2 * types_size (types_of l.written.now)

abbrev pub decreases-meant_arguments : goal.decreases-meant_arguments
decreases-meant_arguments l = 2 * type_arguments_size (type_arguments_of l.written.now)

abbrev pub invariant-meant_all-loop-i : goal.invariant-meant_all-loop-i
invariant-meant_all-loop-i l = meant_all (scope_of l.scope) l.fn.elision (types_of l.written) ≡ behind l.types (meant_all (scope_of l.scope) l.now (types_of (drop l.i l.written)))

abbrev pub invariant-meant_arguments-loop-i : goal.invariant-meant_arguments-loop-i
invariant-meant_arguments-loop-i l = meant_arguments (scope_of l.scope) l.fn.elision (type_arguments_of l.written) ≡ from_argument (scope_of l.scope) l.written l.i l.regions l.types l.now
