use Rattle.verify_core.proofs.SettledLaws.{settled_derives, left_underived}
use Rattle.verify_core.proofs.laws.each_obligation_is_settled_rightly.Goals as goal

pub returns : goal.returns
returns c = record { proved = settled_derives; left = left_underived }
