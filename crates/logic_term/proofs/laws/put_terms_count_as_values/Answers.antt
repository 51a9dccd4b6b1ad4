use Rattle.logic_term.proofs.PlacedLaw.{entries_mean, replaced_means, with_terms_means}
use Rattle.logic_term.proofs.laws.put_terms_count_as_values.Goals as goal

pub returns-clause-together : goal.returns-clause-together
returns-clause-together c = λ S ρ τ σ t exact. with_terms_means S t ρ τ σ exact

pub returns-clause-one : goal.returns-clause-one
returns-clause-one c = λ S ρ x u t w exact. replaced_means S x u t ρ w exact

pub returns-clause-reduced : goal.returns-clause-reduced
returns-clause-reduced c = λ S r n ρ τ σ t exact. entries_mean S r t n ρ τ σ exact
