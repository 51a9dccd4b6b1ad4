use Rattle.std.proofs.Common.{take}
use Rattle.prophecy_logic.specs.State.{Leads}
use Rattle.prophecy_logic.proofs.state.State.after_all.Given as goal

abbrev pub invariant-loop-command : goal.invariant-loop-command
invariant-loop-command l = Leads l.fn.self (take l.command-index l.commands) l.state
