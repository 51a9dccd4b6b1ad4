use Rattle.std.proofs.Common.{◌≡◌, ◌++◌, codes}
use Rattle.std.proofs.lemmas.Result.{on_ok_weaker}
use Rattle.std.specs.Fmt.{decimal}
use Rattle.report_out.specs.Report.{space, kind_text}
use Rattle.report_out.proofs.ReportLaws.{four_pieces}
use Rattle.report_out.proofs.listed.push_number_and_kind.Goals as goal

pub returns : goal.returns
returns c =
    on_ok_weaker {P = c.push_text-3.new.out.items ≡ c.push_text-2.new.out.items ++ kind_text c.args.item.now.kind} c.push_text-3.result
    (λ last. four_pieces c.args.out.now.items c.push_text.new.out.items c.push_number.new.out.items c.push_text-2.new.out.items c.push_text-3.new.out.items (codes "obligation ") (decimal c.args.item.now.number) space (kind_text c.args.item.now.kind)
    c.in_ok-push_text.ensures c.in_ok-push_number.ensures c.in_ok-push_text-2.ensures last) (rw c.kind_bytes.ensures at c.push_text-3.ensures)
