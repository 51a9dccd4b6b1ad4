use Rattle.logic_term.proofs.Erased.{has_erased, has_type}
use Rattle.logic_term.proofs.laws.sorts_keep_values.Goals as goal

pub returns : goal.returns
returns c = λ Δ v t. (has_erased Δ v t, has_type Δ v t)
