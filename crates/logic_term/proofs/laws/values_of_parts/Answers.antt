use Rattle.logic_term.proofs.Truth.{part_exactly}
use Rattle.logic_term.proofs.laws.values_of_parts.Goals as goal

pub returns : goal.returns
returns c = λ S ρ n t v h. part_exactly S n t ρ v h
