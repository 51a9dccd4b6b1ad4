use Rattle.mir_machine.specs.Code.{code_of}
use Rattle.mir_machine.proofs.NeverStuck.{call_stays_typed}
use Rattle.mir_machine.proofs.laws.proper_calls_stay_typed.Goals as goal

pub returns : goal.returns
returns c Θ bodies = call_stays_typed Θ (code_of bodies)
