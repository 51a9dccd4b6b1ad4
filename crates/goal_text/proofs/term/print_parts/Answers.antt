use Rattle.goal_text.proofs.Listed.{parts_said}
use Rattle.goal_text.proofs.term.print_parts.Goals as goal

pub returns-clause-text : goal.returns-clause-text
returns-clause-text c w bs =
    parts_said w bs c.in-Some.first c.in-Some.others c.args.parts.now c.in-Some.ensures.cases.0 c.args.tasks.now.items c.push.new.self.items c.push-2.new.self.items c.push-3.new.self.items
    c.args.out.now.items c.push_text.new.out.items c.args.before.now c.args.after c.in_ok-push_text.ensures c.in_ok-push.ensures.items c.in_ok-push-2.ensures.items c.in_ok-push-3.ensures.items
