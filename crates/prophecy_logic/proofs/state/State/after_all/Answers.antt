use Rattle.std.proofs.Common.{refl}
use Rattle.prophecy_logic.proofs.Ahead.{leads_nowhere, leads_on}
use Rattle.prophecy_logic.proofs.state.State.after_all.Goals as goal

pub loop-command-init : goal.loop-command-init
loop-command-init c = leads_nowhere _ _ refl

pub loop-command-preserved : goal.loop-command-preserved
loop-command-preserved c =
    leads_on c.args.self c.loop-command.state c.in_ok-state.state c.args.commands.now c.loop-command.command-index c.command-item.result
    c.loop-command-test.true c.command-item.is c.loop-command.invariant c.in_ok-state.ensures
