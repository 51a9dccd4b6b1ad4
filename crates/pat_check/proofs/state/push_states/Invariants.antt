use Rattle.std.proofs.Common.{◌≡◌, ◌++◌, take}
use Rattle.pat_check.specs.States.{states_of}
use Rattle.pat_check.proofs.state.push_states.Given as goal

abbrev pub invariant-loop-i : goal.invariant-loop-i
invariant-loop-i l = l.states.items ≡ l.fn.states.items ++ states_of l.from (take l.i l.branches)
