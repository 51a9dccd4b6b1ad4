use Rattle.type_check.proofs.Fits.{typed_sound}
use Rattle.type_check.proofs.laws.typed_expressions_fit.Goals as goal

pub returns : goal.returns
returns c = λ σ Γ e t r h k p. (typed_sound σ Γ e t r h k p).well
