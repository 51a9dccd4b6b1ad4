use Rattle.creusot_cli.proofs.OneAnswer.{answers_are_one}
use Rattle.creusot_cli.proofs.verify.laws.a_call_has_one_answer.Goals as goal

pub returns : goal.returns
returns c = answers_are_one
