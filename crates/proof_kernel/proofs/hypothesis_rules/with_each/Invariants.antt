use Rattle.std.proofs.Common.{◌≡◌, take, map}
use Rattle.proof_kernel.specs.HypothesisRules.{alone}
use Rattle.proof_kernel.specs.Rules.{with_hyps}
use Rattle.proof_kernel.proofs.hypothesis_rules.with_each.Given as goal

abbrev pub invariant-loop-i : goal.invariant-loop-i
invariant-loop-i l = l.premises.items ≡ map (with_hyps l.step l.q) (map alone (take l.i l.hyps))
