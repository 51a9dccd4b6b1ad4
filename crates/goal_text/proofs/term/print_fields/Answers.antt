use Rattle.std.specs.Option.{option_copied}
use Rattle.goal_text.specs.SpellingView.{spelling_of}
use Rattle.goal_text.proofs.Listed.{fields_said}
use Rattle.goal_text.proofs.term.print_fields.Goals as goal

pub returns-clause-text : goal.returns-clause-text
returns-clause-text c bs =
    fields_said (spelling_of c.args.spelling.now) bs c.in-Some.first c.in-Some.others c.args.parts.now c.in-Some.ensures.cases.0 c.args.tasks.now.items c.push.new.self.items c.push-2.new.self.items c.push-3.new.self.items
    c.args.fields.now c.is_numbered-numbered.result (option_copied c.first_field.result) c.other_fields.result c.closing_bytes.result
    c.args.out.now.items c.opening_bytes.result.now c.push_text.new.out.items c.push_label.new.out.items
    c.is_numbered-numbered.ensures c.first_field.ensures c.other_fields.ensures c.opening_bytes.ensures c.closing_bytes.ensures c.in_ok-push_text.ensures c.in_ok-push_label.ensures
    c.in_ok-push.ensures.items c.in_ok-push-2.ensures.items c.in_ok-push-3.ensures.items
