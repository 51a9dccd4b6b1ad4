use Rattle.logic_term.proofs.Truth.{holds_forall, holds_exists}
use Rattle.logic_term.proofs.laws.truth_of_quantifiers.Goals as goal

pub returns : goal.returns
returns c = record {
  every = λ S ρ x s t. holds_forall S x s t ρ;
  some = λ S ρ x s t. holds_exists S x s t ρ;
}
