use Rattle.std.proofs.Common.{refl}
use Rattle.logic_term.proofs.Pairs.{pairs_lighter, pairs_step}
use Rattle.logic_term.proofs.term.Term.same.Goals as goal

pub loop-a-smaller : goal.loop-a-smaller
loop-a-smaller c =
    pairs_lighter c.loop-a.left.items c.pop.new.self.items c.push_pairs.new.left.items (c.in-Some.a, c.in-Some.b) c.in-Some.a.now c.in-Some.b.now c.in-Some.ensures.items refl refl
    c.in_ok-push_pairs.ensures.firsts

pub loop-a-preserved : goal.loop-a-preserved
loop-a-preserved c =
    pairs_step c.loop-a.left.items c.pop.new.self.items c.push_pairs.new.left.items (c.in-Some.a, c.in-Some.b) c.in-Some.a.now c.in-Some.b.now c.in-Some.ensures.items refl refl
    c.args.self.now c.args.other.now (c.has_same_top.ensures.0 c.if-not-has_same_top.false) c.in_ok-push_pairs.ensures.firsts c.in_ok-push_pairs.ensures.seconds c.loop-a.invariant
