use Rattle.verify_core.proofs.VerdictLaws.{justified_at_start}
use Rattle.verify_core.proofs.reach.settled_flags.Goals as goal

pub loop-init : goal.loop-init
loop-init c = record { justified = justified_at_start c.args.bodies.now c.args.proved.items; as_many = c.requires }
