use Rattle.std.proofs.Common.{◌≡◌, subst}
use Rattle.report_out.specs.Report.{limit_line}
use Rattle.verify_core.specs.declared.fault.Refusal.{Refusal}
use Rattle.verify_core.specs.Prepared.{RefusesSource}
use Rattle.creusot_cli.specs.declared.verify.answer.Plan.{Plan}
use Rattle.creusot_cli.specs.Answer.{RefusesFetched, whole}
use Rattle.creusot_cli.proofs.CallLaws.{if_ok, refused_source, past_limit}
use Rattle.creusot_cli.proofs.verify.answer.plan_of_refusal.Goals as goal

pub returns-in_ok-bytes-in-Source : goal.returns-in_ok-bytes-in-Source
returns-in_ok-bytes-in-Source c =
    refused_source c.args.source.now c.in-Source.error c.in_ok-bytes-in-Source.bytes.items c.requires.short
    (subst (λ (r : Refusal). RefusesSource c.args.source.now r) c.in-Source.is c.requires.refuses) c.in_ok-bytes-in-Source.ensures

pub returns-in-Limit : goal.returns-in-Limit
returns-in-Limit c =
    if_ok (λ (p : Plan). (p.status ≡ 7) × (p.bytes.items ≡ limit_line c.in-Limit.limit)) (λ (p : Plan). RefusesFetched (whole c.args.source.now) p.status p.bytes.items) c.plan_of_limit.result
    (past_limit c.args.source.now c.in-Limit.limit c.requires.short (subst (λ (r : Refusal). RefusesSource c.args.source.now r) c.in-Limit.is c.requires.refuses)) c.plan_of_limit.ensures
