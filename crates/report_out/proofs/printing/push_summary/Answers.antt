use Rattle.std.proofs.Common.{◌≡◌, ◌∙◌, ◌++◌, codes, length}
use Rattle.std.proofs.lemmas.Result.{on_ok_weaker}
use Rattle.std.specs.Fmt.{decimal}
use Rattle.report_out.specs.Report.{line_feed, verified_count, summary_line}
use Rattle.report_out.proofs.ReportLaws.{three_joined}
use Rattle.report_out.proofs.printing.push_summary.Goals as goal

pub returns : goal.returns
returns c =
    let v = c.args.v.now in
    let joined : c.push_obligation_counts.new.out.items ++ line_feed ≡ c.args.out.now.items ++ summary_line v =
    three_joined c.args.out.now.items c.push_function_counts.new.out.items c.push_obligation_counts.new.out.items
    (codes "summary functions " ++ decimal (length v.functions) ++ codes " verified " ++ decimal (verified_count v))
    (codes " obligations ") (decimal v.obligations) (codes " proved ") (decimal v.proved) line_feed
    c.in_ok-push_function_counts.ensures c.in_ok-push_obligation_counts.ensures in
    on_ok_weaker {P = c.push_text.new.out.items ≡ c.push_obligation_counts.new.out.items ++ line_feed}
    c.push_text.result (λ last. last ∙ joined) c.push_text.ensures
