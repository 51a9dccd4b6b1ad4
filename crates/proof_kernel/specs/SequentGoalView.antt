-- The term of a sequent's goal.
use Rattle.logic_term.specs.Term.{Term}
use Rattle.proof_kernel.specs.declared.sequent.SequentGoal.{SequentGoal}
use Rattle.proof_kernel.specs.declared.sequent.SequentGoal.TheVariants.{Whole, Made}

abbrev pub goal_of : SequentGoal → Term
goal_of (Whole g) = g
goal_of (Made t) = t
