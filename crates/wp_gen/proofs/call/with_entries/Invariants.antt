use Rattle.std.proofs.Common.{◌≡◌, ◌++◌, drop}
use Rattle.prophecy_logic.specs.Walk.{entries}
use Rattle.wp_gen.proofs.call.with_entries.Given as goal

abbrev pub invariant-loop-i : goal.invariant-loop-i
invariant-loop-i l = l.fn.first.items ++ entries l.names l.terms ≡ l.all.items ++ entries (drop l.i l.names) (drop l.i l.terms)
