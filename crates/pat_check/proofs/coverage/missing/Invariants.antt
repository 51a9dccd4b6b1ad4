use Rattle.pat_check.proofs.Branching.{most_branches}
use Rattle.pat_check.proofs.Searching.{Searching, state_weights}
use Rattle.pat_check.proofs.coverage.missing.Given as goal

abbrev pub invariant-loop-state : goal.invariant-loop-state
invariant-loop-state l = Searching l.decls l.arms l.t l.states.items

abbrev pub decreases-loop-state : goal.decreases-loop-state
decreases-loop-state l = state_weights (most_branches l.decls) l.arms l.states.items
