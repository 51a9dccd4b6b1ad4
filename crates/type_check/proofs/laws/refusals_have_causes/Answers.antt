use Rattle.type_check.proofs.Refusing.{typed_stops}
use Rattle.type_check.proofs.laws.refusals_have_causes.Goals as goal

pub returns : goal.returns
returns c = λ σ Γ a t e p. typed_stops σ Γ a t e p
