use Rattle.logic_term.proofs.SortSound.{sort_sound}
use Rattle.logic_term.proofs.laws.sorts_are_kept.Goals as goal

pub returns : goal.returns
returns c = λ Θ θ Γ ρ t s sorted fits v means no. no (sort_sound Θ θ t Γ s ρ sorted fits v means)
