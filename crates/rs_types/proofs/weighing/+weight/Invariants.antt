use Rattle.std.proofs.Common.{◌≡◌, ◌+◌, ◌*◌, ◌++◌, drop}
use Rattle.logic_term.specs.TyView.{compound_of, ty_size, tys_size, tys_of}
use Rattle.rs_types.specs.Weighing.{all_weights, weights}
use Rattle.rs_types.proofs.weighing.+weight.Given as goal

abbrev pub decreases-weight : goal.decreases-weight
decreases-weight l = 2 * ty_size l.t.now + 1

abbrev pub decreases-weight_of_parts : goal.decreases-weight_of_parts
decreases-weight_of_parts l = 2 * ty_size (compound_of l.parts.now)

abbrev pub decreases-all_weights : goal.decreases-all_weights
decreases-all_weights l = 2 * tys_size (tys_of l.types.now)

abbrev pub decreases-weights : goal.decreases-weights
decreases-weights l = 2 * tys_size (tys_of l.types.now)

abbrev pub invariant-all_weights-loop-i : goal.invariant-all_weights-loop-i
invariant-all_weights-loop-i l = l.all ≡ all_weights l.question l.cases l.given (tys_of (drop l.i l.types))

abbrev pub invariant-weights-loop-i : goal.invariant-weights-loop-i
invariant-weights-loop-i l = l.each.items ++ weights l.question l.cases l.given (tys_of (drop l.i l.types)) ≡ weights l.question l.cases l.given (tys_of l.types)
