use Rattle.logic_term.proofs.FreeLaw.{coincide_free}
use Rattle.logic_term.proofs.laws.free_names_alone_count.Goals as goal

pub returns : goal.returns
returns c = λ S ρ τ t agree. coincide_free S t ρ τ agree
