use Rattle.std.proofs.Common.{arith}
use Rattle.wp_gen.proofs.GoalLists.{no_more_goals, one_more_of_each}
use Rattle.wp_gen.proofs.formulas.each_goal.Goals as goal

pub loop-i-preserved : goal.loop-i-preserved
loop-i-preserved c =
    one_more_of_each c.args.kind c.args.terms.now c.args.spans.now c.loop-i.i c.loop-i.goals.items c.push.new.self.items c.index-terms-i.result c.span_at.result c.in_ok-goal_of.field-0
    (omega arith) c.loop-i.invariant c.span_at.ensures c.index-terms-i.is c.in_ok-goal_of.ensures c.in_ok-push.ensures.items

pub returns : goal.returns
returns c = no_more_goals c.args.kind c.args.terms.now c.args.spans.now c.loop-i.i _ (omega arith) c.loop-i.invariant
