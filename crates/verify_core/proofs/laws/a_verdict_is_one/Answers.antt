use Rattle.verify_core.proofs.OneVerdict.{verdict_once}
use Rattle.verify_core.proofs.laws.a_verdict_is_one.Goals as goal

pub returns : goal.returns
returns c = verdict_once
