use Rattle.std.proofs.Common.{◌+◌, ◌*◌, ◌≤◌, length}
use Rattle.logic_term.specs.TermView.{term_of, terms_of}
use Rattle.logic_term.specs.Walk.{weight, weights}
use Rattle.logic_term.proofs.term.+term.Given as goal

abbrev pub decreases-Term::drop : goal.decreases-Term::drop
decreases-Term::drop l = 4 * weight l.self + 2

abbrev pub decreases-move_out : goal.decreases-move_out
decreases-move_out l = 4 * weight (term_of l.node.value) + 1

abbrev pub decreases-move_parts : goal.decreases-move_parts
decreases-move_parts l = 4 * weight (term_of l.node)

abbrev pub decreases-move_all : goal.decreases-move_all
decreases-move_all l = 4 * weights (terms_of l.parts.items) + 4

abbrev pub decreases-move_one : goal.decreases-move_one
decreases-move_one l = 4 * weight l.t + 3

abbrev pub invariant-Term::drop-loop-t : goal.invariant-Term::drop-loop-t
invariant-Term::drop-loop-t l = weight l.self + weights (terms_of l.left.items) ≤ weight l.fn.self

abbrev pub decreases-Term::drop-loop-t : goal.decreases-Term::drop-loop-t
decreases-Term::drop-loop-t l = weight l.self + weights (terms_of l.left.items)

abbrev pub invariant-move_all-loop-part : goal.invariant-move_all-loop-part
invariant-move_all-loop-part l = record {
  moved : weights (terms_of l.left.items) + weights (terms_of l.parts.items) ≤ weights (terms_of l.initial.left.items) + weights (terms_of l.initial.parts.items);
  fewer : weights (terms_of l.parts.items) ≤ weights (terms_of l.fn.parts.items);
}

abbrev pub decreases-move_all-loop-part : goal.decreases-move_all-loop-part
decreases-move_all-loop-part l = length l.parts.items
