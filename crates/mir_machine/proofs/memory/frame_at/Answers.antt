use Rattle.std.proofs.Common.{◌≡◌, length, arith}
use Rattle.mir_machine.proofs.Coming.{comes_along}
use Rattle.mir_machine.proofs.Places.{frame_at-behind}
use Rattle.mir_machine.proofs.memory.frame_at.Goals as goal

pub returns-clause-frame : goal.returns-clause-frame
returns-clause-frame c =
    let s = c.state.inside in
    let other : c.args.n ≡ length s.behind.items → ⊥ = (λ e. omega arith) in
    rw (← c.state.view_is)
    (comes_along c.nth_frame.result _ _ (λ f. f.now) (frame_at-behind s.running s.behind.items c.args.n other) (rw c.deref.ensures.value at c.nth_frame.ensures.frame))
