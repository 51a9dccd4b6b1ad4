use Rattle.mir_build.proofs.OneBody.{blocks_are_counted}
use Rattle.mir_build.proofs.laws.blocks_are_counted.Goals as goal

pub returns : goal.returns
returns c = blocks_are_counted
