use Rattle.proof_kernel.proofs.Once.{wide_is_not_done as narrow}
use Rattle.proof_kernel.proofs.laws.wide_is_not_done.Goals as goal

pub returns : goal.returns
returns c = narrow
