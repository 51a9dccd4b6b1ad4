-- The parts of a tree of tests are smaller than it.
use Rattle.std.specs.Prelude.{◌≡◌, ℕ, zero, suc, ◌+◌, ◌≤◌, ◌<◌, length, get_or, max, List, [], ◌∷◌}
use Rattle.std.proofs.Common.{arith}
use denote.Param.Weighed.{most}
use Rattle.pat_check.specs.Decision.{Decision}
use Rattle.pat_check.specs.DecisionView.{decision_of, decision_size, decisions_size, decisions_of}
use Rattle.pat_check.specs.declared.decision.DecisionNode.{DecisionNode}
use Rattle.pat_check.specs.declared.decision.DecisionNode.TheVariants as node
use Rattle.pat_check.specs.declared.decision.Decision.TheDeep.{deep-DecisionNode}

most_all : (ts : List Decision) → most (λ t. decision_size t + 1) ts ≤ decisions_size (decisions_of ts)
most_all [] = omega arith
most_all (t ∷ ts) = omega (arith, most_all ts)

smaller : (ts : List Decision) (i : ℕ) (d : Decision) → i < length ts → decision_size (get_or ts i d) < decisions_size (decisions_of ts)
smaller [] i d h = absurd (omega arith)
smaller (t ∷ ts) zero d h = omega arith
smaller (t ∷ ts) (suc i) d h = omega (arith, smaller ts i d (omega arith))

pub each_smaller : (ts : List Decision) (i : ℕ) (t : Decision) → t ≡ get_or ts i t → i < length ts → decision_size t < decisions_size (decisions_of ts)
each_smaller ts i t e h = rw e (smaller ts i t h)

pub falls : (n : DecisionNode) → max (deep-DecisionNode n) 0 ≤ decision_size (decision_of n)
falls (node.Leaf a b) = omega arith
falls (node.Switch a b) = omega (arith, most_all b.items)
falls (node.Truth a b c) = omega arith
falls (node.Literal a b c d) = omega arith
