use Rattle.mir_build.proofs.OneBody.{programs_lower_in_one_way}
use Rattle.mir_build.proofs.laws.programs_lower_in_one_way.Goals as goal

pub returns : goal.returns
returns c = programs_lower_in_one_way
