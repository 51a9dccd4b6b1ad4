use Rattle.std.proofs.Common.{◌≡◌, ◌++◌}
use Rattle.logic_term.specs.TermView.{terms_of}
use Rattle.logic_term.specs.Walk.{to_do, weights}
use Rattle.proof_kernel.specs.HypothesisRules.{disjuncts}
use Rattle.proof_kernel.proofs.Conjuncts.{disjuncts_in}
use Rattle.proof_kernel.proofs.hypothesis_rules.disjuncts_of.Given as goal

abbrev pub invariant-loop-next : goal.invariant-loop-next
invariant-loop-next l = l.all.items ++ disjuncts_in (to_do l.left.items) ≡ disjuncts l.t

abbrev pub decreases-loop-next : goal.decreases-loop-next
decreases-loop-next l = weights (terms_of (to_do l.left.items))
