use Rattle.prophecy_logic.proofs.OneWalk.{walks_are_one}
use Rattle.prophecy_logic.proofs.laws.walks_are_one.Goals as goal

pub returns : goal.returns
returns c = walks_are_one
