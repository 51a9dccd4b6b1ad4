use Rattle.proof_kernel.proofs.IntroLaw.{step_gives}
use Rattle.proof_kernel.proofs.intro.intro.Goals as goal

pub returns : goal.returns
returns c = step_gives c.args.step c.args.names.now c.args.q.now c.take.result (c.in_ok-some.ensures.0 c.if-not-some.false) (c.in_ok-new.ensures.0 c.if-not-new.false) c.take.ensures
