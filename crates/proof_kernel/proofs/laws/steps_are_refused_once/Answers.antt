use Rattle.proof_kernel.proofs.AcceptLaw.{refuses_once, accepts_or_refuses}
use Rattle.proof_kernel.proofs.laws.steps_are_refused_once.Goals as goal

pub returns : goal.returns
returns c = record { one_place = refuses_once; not_accepted = accepts_or_refuses }
