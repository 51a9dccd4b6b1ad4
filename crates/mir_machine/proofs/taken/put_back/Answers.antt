use Rattle.std.proofs.Common.{arith}
use Rattle.mir_machine.proofs.Undoing.{undone-start, undone-next}
use Rattle.mir_machine.proofs.taken.put_back.Goals as goal

pub loop-spot-init : goal.loop-spot-init
loop-spot-init c = λ s h. undone-start c.args.taken c.truncate.new.self.items c.args.state.now s c.len.result (omega (arith, c.len.ensures, c.args.taken.left.ok.0)) c.truncate.ensures.items h

pub loop-spot-preserved : goal.loop-spot-preserved
loop-spot-preserved c = λ s h.
    undone-next c.loop-spot.left.items c.pop.new.self.items c.loop-spot.trees.items c.pop-in-Some.new.self.items c.in-Some.spot c.pop-in-Some.result c.loop-spot.state c.put_back_one.new.state s
    c.in-Some.ensures.items c.pop-in-Some.ensures.items (λ p. c.pop-in-Some.ensures.variant.1 (omega (arith, c.loop-spot.trees.ok.0, p))) c.put_back_one.ensures (c.loop-spot.invariant s h)
