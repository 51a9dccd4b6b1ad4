use Rattle.std.proofs.Common.{◌≡◌, ◌++◌, drop}
use Rattle.prophecy_logic.specs.Walk.{each_goal}
use Rattle.wp_gen.proofs.formulas.each_goal.Given as goal

abbrev pub invariant-loop-i : goal.invariant-loop-i
invariant-loop-i l = each_goal l.kind l.terms l.spans ≡ l.goals.items ++ each_goal l.kind (drop l.i l.terms) (drop l.i l.spans)
