use Rattle.verify_core.proofs.OneWalk.{obligations_once}
use Rattle.verify_core.proofs.laws.obligations_are_of_one_walk.Goals as goal

pub returns : goal.returns
returns c = obligations_once
