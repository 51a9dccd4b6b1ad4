use Rattle.runnable.proofs.CopyDecided.{tells_copy}
use Rattle.runnable.proofs.laws.copy_types_are_told.Goals as goal

pub returns : goal.returns
returns c = tells_copy
