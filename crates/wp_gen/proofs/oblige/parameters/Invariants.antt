use Rattle.std.proofs.Common.{◌≡◌, ◌++◌, drop}
use Rattle.prophecy_logic.specs.Walk.{parameters}
use Rattle.wp_gen.proofs.oblige.parameters.Given as goal

abbrev pub invariant-loop-i : goal.invariant-loop-i
invariant-loop-i l = parameters l.names l.types ≡ l.commands.items ++ parameters (drop l.i l.names) (drop l.i l.types)
