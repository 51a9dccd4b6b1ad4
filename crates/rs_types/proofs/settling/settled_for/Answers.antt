use Rattle.std.proofs.Common.{subst, sym}
use Rattle.rs_types.specs.Weighing.{ComesOf, at_first}
use Rattle.rs_types.proofs.settling.settled_for.Goals as goal

pub loop-init : goal.loop-init
loop-init c = subst (ComesOf c.args.question c.args.decls.now) (sym c.in_ok-cases.ensures) at_first
