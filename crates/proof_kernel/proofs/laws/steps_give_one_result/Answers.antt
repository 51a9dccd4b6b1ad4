use Rattle.proof_kernel.proofs.Once.{applies_once}
use Rattle.proof_kernel.proofs.laws.steps_give_one_result.Goals as goal

pub returns : goal.returns
returns c = applies_once
