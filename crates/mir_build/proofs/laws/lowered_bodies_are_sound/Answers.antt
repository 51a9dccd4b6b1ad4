use Rattle.mir_build.proofs.LawsOfPrograms.{bodies_are_sound}
use Rattle.mir_build.proofs.laws.lowered_bodies_are_sound.Goals as goal

pub returns : goal.returns
returns c = bodies_are_sound
