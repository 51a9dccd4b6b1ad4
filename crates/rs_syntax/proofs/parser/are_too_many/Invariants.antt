use Rattle.std.proofs.Common.{◌≡◌, ◌+◌, drop}
use Rattle.rs_syntax.specs.Parsed.{functions_among, most_functions}
use Rattle.rs_syntax.proofs.parser.are_too_many.Given as goal

abbrev pub invariant-loop-item : goal.invariant-loop-item
invariant-loop-item l = l.room + functions_among l.items ≡ most_functions + functions_among (drop l.item-index l.items)
