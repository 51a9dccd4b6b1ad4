use Rattle.logic_term.proofs.Truth.{holds_truth, holds_false, holds_not, holds_and, holds_or, holds_implies}
use Rattle.logic_term.proofs.laws.truth_of_connectives.Goals as goal

pub returns : goal.returns
returns c = record {
  constants = λ S ρ. (holds_truth S ρ, holds_false S ρ);
  negation = λ S ρ t. holds_not S t ρ;
  conjunction = λ S ρ t u. holds_and S t u ρ;
  disjunction = λ S ρ t u. holds_or S t u ρ;
  implication = λ S ρ t u. holds_implies S t u ρ;
}
