use Rattle.prophecy_logic.proofs.Exists.{walks_exist}
use Rattle.prophecy_logic.proofs.laws.walks_exist.Goals as goal

pub returns : goal.returns
returns c = walks_exist
