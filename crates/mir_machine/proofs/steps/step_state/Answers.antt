use Rattle.std.proofs.Common.{◌≡◌, Err, rules}
use Rattle.mir_machine.specs.declared.halt.Halt.TheVariants as halt
use Rattle.mir_machine.proofs.Undoing.{undoes_none}
use Rattle.mir_machine.proofs.steps.step_state.Goals as goal

pub returns-in-Err-NoMemory-clause-unchanged : goal.returns-in-Err-NoMemory-clause-unchanged
returns-in-Err-NoMemory-clause-unchanged c = λ e.
    let s = c.args.state.now in
    let refused : c.try_step-stepped.result ≡ Err halt.NoMemory = search rules in
    c.put_back.ensures s ((c.try_step-stepped.ensures.err refused).back s (undoes_none c.new-taken.result s c.new-taken.ensures.trees c.new-taken.ensures.left))
