use Rattle.proof_kernel.proofs.EtaSteps.{one_more_part}
use Rattle.proof_kernel.proofs.eta_rule.first_parts.Goals as goal

pub loop-i-preserved : goal.loop-i-preserved
loop-i-preserved c = one_more_part c.loop-i.i c.args.t.now c.in_ok-part.field-0 c.loop-i.parts.items c.push.new.self.items c.loop-i.invariant c.in_ok-part.ensures c.in_ok-push.ensures.items
