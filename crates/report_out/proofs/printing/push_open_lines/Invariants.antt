use Rattle.std.proofs.Common.{◌≡◌, ◌++◌, flat_map, take}
use Rattle.report_out.specs.Report.{open_line}
use Rattle.report_out.proofs.printing.push_open_lines.Given as goal

abbrev pub invariant-loop-item : goal.invariant-loop-item
invariant-loop-item l = l.out.items ≡ l.initial.out.items ++ flat_map (open_line l.lines.source.now) (take l.item-index l.left)
