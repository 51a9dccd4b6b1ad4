use Rattle.mir_build.proofs.LawsOfPrograms.{contracts_speak_of_parameters}
use Rattle.mir_build.proofs.laws.lowered_contracts_speak_of_parameters.Goals as goal

pub returns : goal.returns
returns c = contracts_speak_of_parameters
