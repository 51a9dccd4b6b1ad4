use Rattle.proof_kernel.proofs.Adds.{cited_there, adds_its_own}
use Rattle.proof_kernel.proofs.laws.steps_name_their_own.Goals as goal

pub returns : goal.returns
returns c = record { cited = cited_there; added = adds_its_own }
