use Rattle.proof_kernel.proofs.Derived.{proof_is_sound}
use Rattle.proof_kernel.proofs.laws.what_is_derived_is_true.Goals as goal

pub returns : goal.returns
returns c = proof_is_sound
