use Rattle.std.proofs.Common.{◌≡◌, take, map}
use Rattle.logic_term.specs.Normal.{reduced}
use Rattle.proof_kernel.proofs.term_rules.all_reduced.Given as goal

abbrev pub invariant-loop-i : goal.invariant-loop-i
invariant-loop-i l = l.all.items ≡ map reduced (take l.i l.formulas)
