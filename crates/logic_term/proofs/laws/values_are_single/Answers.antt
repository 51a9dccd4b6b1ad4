use Rattle.logic_term.proofs.Unique.{single}
use Rattle.logic_term.proofs.laws.values_are_single.Goals as goal

pub returns : goal.returns
returns c = λ S ρ t v w p q. single S t ρ v w p q
