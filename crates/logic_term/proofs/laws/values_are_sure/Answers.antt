use Rattle.logic_term.proofs.Unique.{has_value}
use Rattle.logic_term.proofs.laws.values_are_sure.Goals as goal

pub returns : goal.returns
returns c = λ S ρ t. has_value S t ρ
