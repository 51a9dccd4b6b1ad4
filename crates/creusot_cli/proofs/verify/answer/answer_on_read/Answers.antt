use Rattle.std.proofs.Common.{◌≡◌, ap, subst, Some}
use Rattle.report_out.specs.Report.{limit_line}
use Rattle.verify_core.specs.OnSource.{most_proof_bytes}
use Rattle.creusot_cli.specs.declared.verify.answer.Plan.{Plan}
use Rattle.creusot_cli.specs.declared.verify.files.ReadFile.{ReadFile}
use Rattle.creusot_cli.specs.Answer.{IsWithin, AnswersVerify, proofs_limit}
use Rattle.creusot_cli.specs.Call.{fetched}
use Rattle.creusot_cli.proofs.CallLaws.{if_ok, long_proofs}
use Rattle.creusot_cli.proofs.verify.answer.answer_on_read.Goals as goal

pub returns-in-TooLong : goal.returns-in-TooLong
returns-in-TooLong c =
    if_ok (λ (p : Plan). (p.status ≡ 7) × (p.bytes.items ≡ limit_line (proofs_limit c.in-TooLong.length)))
    (λ (p : Plan). AnswersVerify c.args.source.now c.args.program (Some (fetched c.args.read.now)) p.status p.bytes.items) c.plan_of_limit.result
    (long_proofs c.args.source.now c.args.program (Some (fetched c.args.read.now)) c.in-TooLong.length (ap (λ (r : ReadFile). Some (fetched r)) c.in-TooLong.is)
    (subst (λ (r : ReadFile). IsWithin most_proof_bytes (fetched r)) c.in-TooLong.is c.requires.within)) c.plan_of_limit.ensures
