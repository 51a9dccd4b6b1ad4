use Rattle.std.proofs.Common.{take}
use Rattle.verify_core.specs.Judging.{AreLinesOf}
use Rattle.verify_core.proofs.verdict.lines_of.Given as goal

abbrev pub invariant-loop-at : goal.invariant-loop-at
invariant-loop-at l = AreLinesOf (take l.at l.bodies) (take l.at l.flags) l.lines
