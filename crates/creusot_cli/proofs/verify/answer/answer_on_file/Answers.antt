use Rattle.std.proofs.Common.{◌≡◌, Some}
use Rattle.report_out.specs.declared.verdict.Verdict.{Verdict}
use Rattle.report_out.specs.Report.{report_of}
use Rattle.verify_core.specs.Verdict.{IsVerdict}
use Rattle.verify_core.proofs.VerdictLaws.{with_any_names}
use Rattle.creusot_cli.specs.declared.verify.answer.Plan.{Plan}
use Rattle.creusot_cli.specs.Answer.{AnswersVerify, whole, status_of}
use Rattle.creusot_cli.specs.Call.{PlansRefusedProofs}
use Rattle.creusot_cli.proofs.CallLaws.{if_ok, given_proofs, reported_answers, refused_proofs}
use Rattle.creusot_cli.proofs.verify.answer.answer_on_file.Goals as goal

pub returns-in-Ok : goal.returns-in-Ok
returns-in-Ok c =
    let p = c.args.program in
    let proofs = c.as_slice.result.now in
    let answers = reported_answers c.args.source.now p (Some (whole c.args.bytes.now)) proofs
    (given_proofs p.names c.args.bytes.now c.in-Ok.file proofs c.requires.within c.in-Ok.ensures.ok c.as_slice.ensures) in
    if_ok (λ (plan : Plan). (v : Verdict) × IsVerdict proofs (record p { names = c.proofs_of.new.names }) v × (plan.status ≡ status_of v) × (plan.bytes.items ≡ report_of c.args.source.now v))
    (λ (plan : Plan). AnswersVerify c.args.source.now p (Some (whole c.args.bytes.now)) plan.status plan.bytes.items) c.reported.result
    (λ plan (v, is, status, printed). answers plan (v, with_any_names proofs p c.proofs_of.new.names v is, status, printed)) c.reported.ensures

pub returns : goal.returns
returns c =
    if_ok (PlansRefusedProofs c.in-Err.refusal) (λ (p : Plan). AnswersVerify c.args.source.now c.args.program (Some (whole c.args.bytes.now)) p.status p.bytes.items) c.plan_of_proofs.result
    (refused_proofs c.args.source.now c.args.program c.args.bytes.now c.in-Err.refusal c.requires.within c.in-Err.ensures.refused) c.plan_of_proofs.ensures
