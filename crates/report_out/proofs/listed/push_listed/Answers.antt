use Rattle.std.proofs.lemmas.Result.{on_ok_weaker}
use Rattle.report_out.proofs.ReportLaws.{listed_joined}
use Rattle.report_out.proofs.listed.push_listed.Goals as goal

pub returns : goal.returns
returns c =
    on_ok_weaker c.push_owner_and_goal.result
    (λ last. listed_joined c.args.lines.now.source.now c.args.item.now c.args.out.now.items c.push_number_and_kind.new.out.items c.push_text.new.out.items c.push_place.new.out.items c.push_text-2.new.out.items c.push_owner_and_goal.new.out.items
    c.in_ok-push_number_and_kind.ensures c.in_ok-push_text.ensures c.in_ok-push_place.ensures c.in_ok-push_text-2.ensures last) c.push_owner_and_goal.ensures
