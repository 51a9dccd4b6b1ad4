use Rattle.logic_term.proofs.CanonicalLaw.{canonical_means}
use Rattle.logic_term.proofs.laws.canonical_forms_keep_values.Goals as goal

pub returns : goal.returns
returns c = λ t S ρ. canonical_means S t ρ
