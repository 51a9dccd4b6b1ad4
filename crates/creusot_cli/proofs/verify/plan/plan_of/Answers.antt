use Rattle.std.proofs.lemmas.Result.{err_from_is_err_and}
use Rattle.std.proofs.Common.{◌≡◌, ◌∙◌, ap, Err, Some}
use Rattle.call_words.specs.Asked.{asked}
use Rattle.creusot_cli.specs.declared.verify.files.Stop.{Stop}
use Rattle.creusot_cli.specs.declared.verify.files.Stop.TheVariants.{ShelfFailed}
use Rattle.creusot_cli.specs.Answer.{longer}
use Rattle.creusot_cli.specs.Call.{CannotRead, fetched}
use Rattle.creusot_cli.proofs.CallLaws.{later_fault, long_source, stop_is, whole_read}
use Rattle.creusot_cli.proofs.verify.plan.plan_of.Goals as goal

pub returns-in_err-source-clause-failed : goal.returns-in_err-source-clause-failed
returns-in_err-source-clause-failed g c = λ e.
    let p = err_from_is_err_and c.from_residual.result c.from_residual.ensures.1 in
    let stop : c.in_err-source.field-0.0 ≡ ShelfFailed = stop_is c.from_residual.result p.0 c.in_err-source.field-0.0 p.1 p.2 e in
    let failed : c.read_file.result ≡ Err ShelfFailed = c.in_err-source.was ∙ ap (λ (s : Stop). Err s) stop in
    CannotRead.of_source (c.read_file.ensures.failed failed)

pub returns-in-Whole-clause-failed : goal.returns-in-Whole-clause-failed
returns-in-Whole-clause-failed g c = λ e.
    later_fault (g.S.Shelf.holds c.args.shelf.now) (g.S.Shelf.holds c.read_file.new.shelf) (g.S.Shelf.read_faults c.args.shelf.now) (g.S.Shelf.read_faults c.read_file.new.shelf)
    (g.S.Shelf.read_faults c.plan_of_source.new.shelf) (Some (asked c.args.request)) c.read_file.ensures.holds c.read_file.ensures.none_falls (c.plan_of_source.ensures.failed e)

pub returns-in_ok-plan_of_limit-in-TooLong-clause-ok : goal.returns-in_ok-plan_of_limit-in-TooLong-clause-ok
returns-in_ok-plan_of_limit-in-TooLong-clause-ok g c =
    long_source (g.S.Shelf.holds c.args.shelf.now) (asked c.args.request) c.in-TooLong.length c.in_ok-plan_of_limit-in-TooLong.field-0
    (whole_read (g.S.Shelf.holds c.args.shelf.now) c.args.request.source.now 1048576 c.in_ok-source.field-0 (longer c.in-TooLong.length) c.in_ok-source.ensures.read (ap fetched c.in-TooLong.is))
    c.in_ok-plan_of_limit-in-TooLong.ensures
