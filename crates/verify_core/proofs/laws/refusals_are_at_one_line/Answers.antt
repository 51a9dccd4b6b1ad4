use Rattle.verify_core.proofs.OneVerdict.{refused_at_one_line, refused_is_not_accepted}
use Rattle.verify_core.proofs.laws.refusals_are_at_one_line.Goals as goal

pub returns : goal.returns
returns c = record { one_line = refused_at_one_line; not_accepted = refused_is_not_accepted }
