use Rattle.std.proofs.Common.{◌≡◌, ◌++◌, take}
use Rattle.prophecy_logic.specs.Command.{assumed}
use Rattle.wp_gen.proofs.call.with_assumed.Given as goal

abbrev pub invariant-loop-term : goal.invariant-loop-term
invariant-loop-term l = l.all.items ≡ l.fn.first.items ++ assumed (take l.term-index l.terms)
