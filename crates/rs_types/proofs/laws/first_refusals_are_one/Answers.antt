use Rattle.rs_types.proofs.OneRefusal.{first_does_not_hold, one_first}
use Rattle.rs_types.proofs.laws.first_refusals_are_one.Goals as goal

pub returns-clause-apart : goal.returns-clause-apart
returns-clause-apart c = λ ds cs e all first. first_does_not_hold ds cs e all first

pub returns-clause-one : goal.returns-clause-one
returns-clause-one c = λ ds cs one other first second. one_first ds cs one other first second
