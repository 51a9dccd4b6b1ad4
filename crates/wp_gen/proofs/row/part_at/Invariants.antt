use Rattle.std.proofs.Common.{◌≡◌, drop}
use Rattle.prophecy_logic.specs.Row.{part_at}
use Rattle.wp_gen.proofs.row.part_at.Given as goal

abbrev pub invariant-loop-step : goal.invariant-loop-step
invariant-loop-step l = part_at l.fn.whole l.path ≡ part_at l.part (drop l.step-index l.path)
