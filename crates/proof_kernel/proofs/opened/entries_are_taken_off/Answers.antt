use Rattle.proof_kernel.proofs.OpenedTaken.{entries_taken}
use Rattle.proof_kernel.proofs.opened.entries_are_taken_off.Goals as goal

pub returns : goal.returns
returns c = entries_taken
