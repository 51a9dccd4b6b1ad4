use Rattle.std.proofs.Common.{rules, arith}
use Rattle.std.proofs.lemmas.Grind.{common_steps}
use Rattle.wp_gen.proofs.GoalLists.{one_more_goal}
use Rattle.wp_gen.proofs.oblige.listed.Goals as goal

pub loop-goal-preserved : goal.loop-goal-preserved
loop-goal-preserved c = record {
  items = one_more_goal c.args.owner.now c.args.first c.loop-goal.yielded c.loop-goal.number c.in-Some.goal _ _ _
      c.loop-goal.invariant.next c.loop-goal.invariant.items c.in_ok-obligation.ensures c.in_ok-push.ensures.items;
  next = first_of (search rules, grind (arith, common_steps));
}
