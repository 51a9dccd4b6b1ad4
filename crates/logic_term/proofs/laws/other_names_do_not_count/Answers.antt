use Rattle.logic_term.proofs.FreeLaw.{unused_means}
use Rattle.logic_term.proofs.laws.other_names_do_not_count.Goals as goal

pub returns : goal.returns
returns c = λ S ρ x t w unused. unused_means S x t ρ w unused
