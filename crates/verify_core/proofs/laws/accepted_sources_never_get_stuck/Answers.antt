use Rattle.verify_core.proofs.Verified.{accepted_is_never_stuck}
use Rattle.verify_core.proofs.laws.accepted_sources_never_get_stuck.Goals as goal

pub returns : goal.returns
returns c = accepted_is_never_stuck
