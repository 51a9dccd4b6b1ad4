use Rattle.constructors.proofs.Declaration.{constructor_found}
use Rattle.constructors.proofs.laws.constructors_are_declared.Goals as goal

pub returns : goal.returns
returns c = λ ds s p m h. constructor_found ds s p m h
