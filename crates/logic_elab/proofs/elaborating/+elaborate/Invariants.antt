use Rattle.std.proofs.Common.{◌≡◌, ◌≤◌, ◌+◌, ◌*◌, max, [], length, Ok}
use Rattle.source_trees.specs.PtermView.{pterm_size, terms_of as written_terms, terms_size}
use Rattle.logic_elab.specs.Chains.{climbed, operation_size, operations_size}
use Rattle.logic_elab.specs.Elaborated.{elaborated_parts, elaborated_under}
use Rattle.logic_elab.specs.Binders.{inside}
use Rattle.logic_elab.proofs.PartByPart.{continued}
use Rattle.logic_elab.proofs.elaborating.+elaborate.Given as goal

abbrev pub decreases-elaborate_under : goal.decreases-elaborate_under
decreases-elaborate_under g l = 4 * pterm_size l.t.now + 1

abbrev pub decreases-elaborate_form : goal.decreases-elaborate_form
decreases-elaborate_form g l = 4 * pterm_size l.t.now

abbrev pub decreases-elaborate_formula_under : goal.decreases-elaborate_formula_under
decreases-elaborate_formula_under g l = 4 * pterm_size l.t.now + 2

abbrev pub decreases-elaborate_quantified : goal.decreases-elaborate_quantified
decreases-elaborate_quantified g l = 4 * pterm_size l.body.now + 3

abbrev pub decreases-elaborate_choice : goal.decreases-elaborate_choice
decreases-elaborate_choice g l = 4 * max (pterm_size l.condition.now) (max (pterm_size l.first.now) (pterm_size l.second.now)) + 3

abbrev pub decreases-elaborate_parts : goal.decreases-elaborate_parts
decreases-elaborate_parts g l = 4 * terms_size (written_terms l.parts.now)

abbrev pub invariant-elaborate_parts-loop-i : goal.invariant-elaborate_parts-loop-i
invariant-elaborate_parts-loop-i g l = elaborated_parts (g.S.TermScope.scope l.scope) (inside [] l.bound) (written_terms l.parts) ≡ continued (g.S.TermScope.scope l.scope) (inside [] l.bound) l.parts l.i l.made.sorts.items l.made.terms.items

abbrev pub decreases-elaborate_behind : goal.decreases-elaborate_behind
decreases-elaborate_behind g l = 4 * operation_size l.operation

abbrev pub invariant-elaborate_under-loop-operation : goal.invariant-elaborate_under-loop-operation
invariant-elaborate_under-loop-operation g l = record {
  so_far : elaborated_under (g.S.TermScope.scope l.scope) (inside [] l.bound) l.t ≡ climbed (g.S.TermScope.scope l.scope) (inside [] l.bound) l.operations.items (Ok l.made);
  smaller : operations_size l.operations.items ≤ pterm_size l.t;
}

abbrev pub decreases-elaborate_under-loop-operation : goal.decreases-elaborate_under-loop-operation
decreases-elaborate_under-loop-operation g l = length l.operations.items
