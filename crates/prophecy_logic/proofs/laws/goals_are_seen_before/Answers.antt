use Rattle.prophecy_logic.proofs.Prefixes.{goals_are_seen_before}
use Rattle.prophecy_logic.proofs.laws.goals_are_seen_before.Goals as goal

pub returns : goal.returns
returns c = goals_are_seen_before
