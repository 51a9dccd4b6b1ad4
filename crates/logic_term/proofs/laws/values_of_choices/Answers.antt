use Rattle.logic_term.proofs.Truth.{choice_true, choice_false}
use Rattle.logic_term.proofs.laws.values_of_choices.Goals as goal

pub returns : goal.returns
returns d = λ S ρ c t u. ((λ h. choice_true S c t u ρ h), (λ h. choice_false S c t u ρ h))
