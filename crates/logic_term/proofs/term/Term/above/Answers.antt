use Rattle.std.proofs.Common.{arith}
use Rattle.logic_term.specs.Subst.{above}
use Rattle.logic_term.proofs.Walking.{above_step, above_lighter}
use Rattle.logic_term.proofs.term.Term.above.Goals as goal

pub loop-t-smaller : goal.loop-t-smaller
loop-t-smaller c = above_lighter c.loop-t.left.items c.pop.new.self.items c.push_parts.new.left.items c.in-Some.t c.in-Some.ensures.items c.in_ok-push_parts.ensures

pub loop-t-preserved : goal.loop-t-preserved
loop-t-preserved c =
    let e = above_step c.loop-t.left.items c.pop.new.self.items c.push_parts.new.left.items c.in-Some.t c.loop-t.most c.in_ok-above_top.field-0 (above c.args.self.now) c.in-Some.ensures.items c.in_ok-push_parts.ensures
    c.in_ok-above_top.ensures c.loop-t.invariant in
    omega (arith, e)
