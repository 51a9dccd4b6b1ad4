use Rattle.verify_core.specs.Built.{is_built}
use Rattle.verify_core.proofs.built.unbuilt_among.Goals as goal

pub returns : goal.returns
unfolding is_built
returns c = c.first_unbuilt.ensures
