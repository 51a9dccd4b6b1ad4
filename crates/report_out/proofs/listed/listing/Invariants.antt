use Rattle.std.proofs.Common.{◌≡◌, flat_map, take}
use Rattle.report_out.specs.Report.{listed_line}
use Rattle.report_out.proofs.listed.listing.Given as goal

abbrev pub invariant-loop-item : goal.invariant-loop-item
invariant-loop-item l = l.out.items ≡ flat_map (listed_line l.source) (take l.item-index l.items)
