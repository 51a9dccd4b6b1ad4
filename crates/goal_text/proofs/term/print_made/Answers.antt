use Rattle.std.specs.Prelude.{◌≡◌, ◌++◌, codes, reverse}
use Rattle.std.proofs.lemmas.Result.{on_ok_weaker}
use Rattle.logic_term.specs.TermView.{terms_of}
use Rattle.goal_text.specs.GoalText.{texts_in}
use Rattle.goal_text.specs.Spelling.{Spelling}
use Rattle.goal_text.specs.SpellingView.{spelling_of}
use Rattle.goal_text.specs.SortText.{commas}
use Rattle.goal_text.specs.TasksView.{Around, left_text}
use Rattle.goal_text.proofs.Listed.{tuple_said}
use Rattle.goal_text.proofs.term.print_made.Goals as goal

pub returns-in-Tuple-clause-text : goal.returns-in-Tuple-clause-text
returns-in-Tuple-clause-text c =
    on_ok_weaker {P = (w : Spelling) → (bs : Around) → c.print_parts.new.out.items ++ left_text w bs (reverse c.print_parts.new.tasks.items)
    ≡ c.args.out.now.items ++ (((codes "(" ++ commas (texts_in w bs (terms_of c.args.parts.now))) ++ c.tuple_end_bytes.result.now) ++ left_text w bs (reverse c.args.tasks.now.items))}
    c.print_parts.result
    (λ h bs. tuple_said (spelling_of c.args.spelling.now) bs c.args.parts.now c.args.ctor c.tuple_end_bytes.result.now c.args.out.now.items _ _ c.in-Tuple.is c.tuple_end_bytes.ensures (h (spelling_of c.args.spelling.now) bs))
    c.print_parts.ensures.text
