use Rattle.prophecy_logic.proofs.Prefixes.{prefixes_have_goals}
use Rattle.prophecy_logic.proofs.laws.prefixes_have_goals.Goals as goal

pub returns : goal.returns
returns c = prefixes_have_goals
