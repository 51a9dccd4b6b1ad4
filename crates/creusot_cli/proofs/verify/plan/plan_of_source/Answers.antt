use Rattle.std.proofs.Common.{subst}
use Rattle.call_words.specs.Asked.{asked}
use Rattle.creusot_cli.specs.declared.verify.answer.Opened.{Opened}
use Rattle.creusot_cli.specs.Call.{Opens}
use Rattle.creusot_cli.proofs.CallLaws.{source_answers}
use Rattle.creusot_cli.proofs.verify.plan.plan_of_source.Goals as goal

pub returns-in-Answered-clause-ok : goal.returns-in-Answered-clause-ok
returns-in-Answered-clause-ok g c =
    source_answers (g.S.Shelf.holds c.args.shelf.now) (asked c.args.request) c.args.source.now c.in-Answered.plan c.requires.short c.requires.held
    (subst (λ (o : Opened). Opens c.args.request.verb c.args.source.now o) c.in-Answered.is c.in_ok-plan.ensures)
