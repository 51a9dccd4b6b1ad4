use Rattle.std.specs.Prelude.{[], ◌∷◌, reverse}
use Rattle.goal_text.specs.GoalText.{applied_text, text_in}
use Rattle.logic_term.specs.TermOperator.{unary_operator}
use Rattle.goal_text.proofs.Listed.{unary_said}
use Rattle.goal_text.proofs.term.print_unary.Goals as goal

pub returns-clause-text : goal.returns-clause-text
returns-clause-text c w bs =
    unary_said w bs c.args.t c.unary_bytes.result.1 c.args.tasks.now.items c.push.new.self.items c.push-2.new.self.items c.args.out.now.items c.push_text.new.out.items c.unary_bytes.result.0.now
    (applied_text w (unary_operator c.args.op) (text_in w bs c.args.t.now ∷ []))
    c.in_ok-push.ensures.items c.in_ok-push-2.ensures.items c.in_ok-push_text.ensures (c.unary_bytes.ensures.text w bs (text_in w bs c.args.t.now))
    (c.unary_bytes.ensures.alone w bs (reverse c.args.tasks.now.items))
