use Rattle.prophecy_sim.proofs.GoodBody.{good}
use Rattle.prophecy_sim.proofs.laws.true_obligations_make_good.Goals as goal

pub returns : goal.returns
returns c = good
