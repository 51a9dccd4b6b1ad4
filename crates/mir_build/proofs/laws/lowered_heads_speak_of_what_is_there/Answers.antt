use Rattle.mir_build.proofs.LawsOfPrograms.{heads_speak_of_what_is_there}
use Rattle.mir_build.proofs.laws.lowered_heads_speak_of_what_is_there.Goals as goal

pub returns : goal.returns
returns c = heads_speak_of_what_is_there
