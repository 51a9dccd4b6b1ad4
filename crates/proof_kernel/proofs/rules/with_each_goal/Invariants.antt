use Rattle.std.proofs.Common.{◌≡◌, take, map}
use Rattle.proof_kernel.specs.Rules.{with_goal}
use Rattle.proof_kernel.proofs.rules.with_each_goal.Given as goal

abbrev pub invariant-loop-i : goal.invariant-loop-i
invariant-loop-i l = l.premises.items ≡ map (with_goal l.q) (take l.i l.goals)
