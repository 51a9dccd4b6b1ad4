use Rattle.proof_kernel.proofs.AcceptLaw.{accepts_proofs}
use Rattle.proof_kernel.proofs.laws.proofs_are_accepted.Goals as goal

pub returns : goal.returns
returns c = accepts_proofs
