use Rattle.logic_term.proofs.CanonicalLaw.{reduced_means}
use Rattle.logic_term.proofs.laws.normal_forms_keep_values.Goals as goal

pub returns : goal.returns
returns c = λ t S ρ. reduced_means S t ρ
