use Rattle.mir_machine.specs.Code.{code_of}
use Rattle.mir_machine.proofs.NeverStuck.{never_stuck}
use Rattle.mir_machine.proofs.laws.proper_calls_are_never_stuck.Goals as goal

pub returns : goal.returns
returns c Θ bodies = never_stuck Θ (code_of bodies)
