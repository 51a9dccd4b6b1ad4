use Rattle.std.proofs.Common.{◌≡◌, [], ◌∷◌}
use Rattle.logic_term.specs.Placed.{placed}
use Rattle.logic_term.specs.Subst.{numbers_before, placing}
use Rattle.logic_term.specs.Tasks.{after, steps, steps_weight}
use Rattle.logic_term.proofs.term.Term.placed_in.Given as goal

abbrev pub invariant-loop-task : goal.invariant-loop-task
invariant-loop-task l =
    after l.reduces l.sub (steps l.tasks.items) l.bound.items l.depth l.done.items ≡ (l.fn.bound.items, placed l.reduces l.next (placing (numbers_before l.fn.bound.items l.sub)) l.self ∷ [])

abbrev pub decreases-loop-task : goal.decreases-loop-task
decreases-loop-task l = steps_weight (steps l.tasks.items)
