use Rattle.std.proofs.lemmas.Result.{err_from_is_err_and}
use Rattle.std.proofs.Common.{◌≡◌, ◌∙◌, ap, Err}
use Rattle.std.specs.Option.{option_map}
use Rattle.call_words.specs.Asked.{asked}
use Rattle.creusot_cli.specs.declared.verify.files.Stop.{Stop}
use Rattle.creusot_cli.specs.declared.verify.files.Stop.TheVariants.{ShelfFailed}
use Rattle.creusot_cli.specs.Call.{fetched}
use Rattle.verify_core.proofs.NameCounts.{few_names}
use Rattle.verify_core.proofs.Verified.{owners_of_prepared}
use Rattle.creusot_cli.proofs.CallLaws.{cannot_read_proofs, proofs_answer, stop_is}
use Rattle.creusot_cli.proofs.verify.plan.verified.Goals as goal

pub returns-in_err-proofs-clause-failed : goal.returns-in_err-proofs-clause-failed
returns-in_err-proofs-clause-failed g c = λ e.
    let p = err_from_is_err_and c.from_residual.result c.from_residual.ensures.1 in
    let stop : c.in_err-proofs.field-0.0 ≡ ShelfFailed = stop_is c.from_residual.result p.0 c.in_err-proofs.field-0.0 p.1 p.2 e in
    let failed : c.read_proofs.result ≡ Err ShelfFailed = c.in_err-proofs.was ∙ ap (λ (s : Stop). Err s) stop in
    cannot_read_proofs (g.S.Shelf.holds c.args.shelf.now) (g.S.Shelf.read_faults c.args.shelf.now) (g.S.Shelf.read_faults c.read_proofs.new.shelf) (asked c.args.request) c.args.source.now c.args.program
    c.requires.verb c.requires.has (c.read_proofs.ensures.failed failed)

pub answer_on_proofs-requires-clause-owners : goal.answer_on_proofs-requires-clause-owners
answer_on_proofs-requires-clause-owners g c = owners_of_prepared c.args.source.now c.args.program c.requires.has.prepared

pub answer_on_proofs-requires-clause-few_names : goal.answer_on_proofs-requires-clause-few_names
answer_on_proofs-requires-clause-few_names g c = few_names c.args.source.now c.args.program c.requires.has.short c.requires.has.prepared

pub returns-clause-ok : goal.returns-clause-ok
returns-clause-ok g c =
    proofs_answer (g.S.Shelf.holds c.args.shelf.now) (asked c.args.request) c.args.source.now c.args.program (option_map fetched c.in_ok-proofs.proofs) c.in_ok-answer_on_proofs.field-0
    c.requires.verb c.requires.has c.in_ok-proofs.ensures.read c.in_ok-answer_on_proofs.ensures
