use Rattle.creusot_cli.proofs.CallLaws.{listed_answers}
use Rattle.creusot_cli.proofs.verify.answer.answer_on_source.Goals as goal

pub returns-in_ok-listed-in-List : goal.returns-in_ok-listed-in-List
returns-in_ok-listed-in-List c =
    listed_answers c.args.verb c.args.source.now c.in-Ok.program c.in_ok-listed-in-List.field-0 c.in-List.is c.requires c.in-Ok.ensures.ok c.in_ok-listed-in-List.ensures
