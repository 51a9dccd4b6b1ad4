use Rattle.logic_term.proofs.CanonicalLaw.{same_up_to_names_means}
use Rattle.logic_term.proofs.laws.bound_names_do_not_count.Goals as goal

pub returns : goal.returns
returns c = λ t u same S ρ. same_up_to_names_means S t u ρ same
