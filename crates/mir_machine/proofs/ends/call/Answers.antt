use Rattle.std.proofs.Common.{subst, sym}
use Rattle.mir_machine.specs.Taken.{GoesBack}
use Rattle.mir_machine.proofs.Undoing.{back_along}
use Rattle.mir_machine.proofs.ends.call.Goals as goal

pub returns-in_err-add_gone-clause-err : goal.returns-in_err-add_gone-clause-err
returns-in_err-add_gone-clause-err c = λ e.
    let s = c.args.state.now in
    let s₁ = c.take_all.new.state in
    let first = back_along c.args.taken.now c.add.new.self c.take_all.new.taken s s s₁ (c.add.ensures.back s) c.in_ok-take_all.ensures.ok in
    back_along c.args.taken.now c.take_all.new.taken c.add_gone.new.taken s s₁ s₁ first (c.add_gone.ensures.back s₁)

pub returns-in_err-enter-clause-err : goal.returns-in_err-enter-clause-err
returns-in_err-enter-clause-err c = λ e.
    let s = c.args.state.now in
    let s₁ = c.take_all.new.state in
    let first = back_along c.args.taken.now c.add.new.self c.take_all.new.taken s s s₁ (c.add.ensures.back s) c.in_ok-take_all.ensures.ok in
    let second = back_along c.args.taken.now c.take_all.new.taken c.add_gone.new.taken s s₁ s₁ first (c.add_gone.ensures.back s₁) in
    subst (λ q. GoesBack c.args.taken.now s c.add_gone.new.taken q) (sym c.in_err-enter.ensures.err) second
