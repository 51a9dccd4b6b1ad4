use Rattle.verify_core.proofs.OwedOnce.{few_obligations_are_not_many}
use Rattle.verify_core.proofs.laws.obligations_are_counted.Goals as goal

pub returns : goal.returns
returns c = few_obligations_are_not_many
