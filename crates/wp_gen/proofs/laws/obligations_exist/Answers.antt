use Rattle.wp_gen.proofs.CountLaws.{have_obligations}
use Rattle.wp_gen.proofs.laws.obligations_exist.Goals as goal

pub returns : goal.returns
returns c = have_obligations
