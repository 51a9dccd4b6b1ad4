use Rattle.std.proofs.Common.{◌≡◌, ◌≤◌, List}
use Rattle.source_trees.specs.PtermView.{pterm_size}
use Rattle.logic_elab.specs.Scope.{Scope}
use Rattle.logic_elab.specs.Chains.{climbed, operations_size}
use Rattle.logic_elab.specs.Elaborated.{elaborated_under}
use Rattle.logic_elab.specs.declared.scope.Symbol.{Symbol}
use Rattle.logic_elab.proofs.chain.descend.Given as goal

abbrev pub invariant-loop-operation : goal.invariant-loop-operation
invariant-loop-operation l = record {
  elaborated : (Γ : Scope) (bs : List Symbol) → elaborated_under Γ bs l.t ≡ climbed Γ bs l.operations.items (elaborated_under Γ bs l.bottom);
  smaller : pterm_size l.bottom ≤ pterm_size l.t;
  operations : operations_size l.operations.items ≤ pterm_size l.t;
}

abbrev pub decreases-loop-operation : goal.decreases-loop-operation
decreases-loop-operation l = pterm_size l.bottom
