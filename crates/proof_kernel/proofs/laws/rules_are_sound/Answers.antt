use Rattle.proof_kernel.proofs.Derived.{gives_sound}
use Rattle.proof_kernel.proofs.laws.rules_are_sound.Goals as goal

pub returns : goal.returns
returns c = gives_sound
