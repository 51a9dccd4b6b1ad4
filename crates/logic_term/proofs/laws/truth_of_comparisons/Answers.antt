use Rattle.logic_term.proofs.Truth.{holds_less, holds_at_most, holds_equal_exactly}
use Rattle.logic_term.proofs.laws.truth_of_comparisons.Goals as goal

pub returns : goal.returns
returns c = record {
  less = λ S ρ t u v w left right. holds_less S t u ρ v w left right;
  at_most = λ S ρ t u v w left right. holds_at_most S t u ρ v w left right;
  equality = λ S ρ t u v w left right. holds_equal_exactly S t u ρ v w left right;
}
