use Rattle.verify_core.proofs.OneCount.{few_paths_are_not_many}
use Rattle.verify_core.proofs.laws.paths_are_counted.Goals as goal

pub returns : goal.returns
returns c = few_paths_are_not_many
