use Rattle.std.proofs.Common.{◌≡◌, ◌∙◌, ap}
use Rattle.std.specs.Option.{option_map}
use Rattle.report_out.specs.declared.verdict.Verdict.{Verdict}
use Rattle.report_out.specs.Report.{report_of}
use Rattle.verify_core.specs.Verdict.{IsVerdict}
use Rattle.creusot_cli.specs.declared.verify.answer.Plan.{Plan}
use Rattle.creusot_cli.specs.Answer.{AnswersVerify, status_of}
use Rattle.creusot_cli.specs.Call.{fetched}
use Rattle.creusot_cli.proofs.CallLaws.{if_ok, absent_proofs, reported_answers}
use Rattle.creusot_cli.proofs.verify.answer.answer_on_proofs.Goals as goal

pub returns-in-None : goal.returns-in-None
returns-in-None c =
    if_ok (λ (p : Plan). (v : Verdict) × IsVerdict c.as_slice-in-None.result.now c.args.program v × (p.status ≡ status_of v) × (p.bytes.items ≡ report_of c.args.source.now v))
    (λ (p : Plan). AnswersVerify c.args.source.now c.args.program (option_map fetched c.args.proofs.now) p.status p.bytes.items) c.reported.result
    (reported_answers c.args.source.now c.args.program (option_map fetched c.args.proofs.now) c.as_slice-in-None.result.now
    (absent_proofs c.args.program.names (option_map fetched c.args.proofs.now) c.as_slice-in-None.result.now (ap (option_map fetched) c.in-None.is) (c.as_slice-in-None.ensures ∙ c.new.ensures))) c.reported.ensures
