-- What nodes of trees of tests stand for, and how deep trees of tests are.
use Rattle.std.specs.Prelude.{ℕ, suc, max, List, [], ◌∷◌}
use Rattle.pat_check.specs.Decision.{Decision, Decisions, leaf, switch, if_truth, if_literal, no_more, and_then}
use Rattle.pat_check.specs.declared.decision.DecisionNode.{DecisionNode}
use Rattle.pat_check.specs.declared.decision.DecisionNode.TheVariants as node

abbrev pub decisions_of : List Decision → Decisions
decisions_of [] = no_more
decisions_of (t ∷ ts) = and_then t (decisions_of ts)

abbrev pub decision_of : DecisionNode → Decision
decision_of (node.Leaf a b) = leaf a b
decision_of (node.Switch a b) = switch a (decisions_of b.items)
decision_of (node.Truth a b c) = if_truth a b c
decision_of (node.Literal a b c d) = if_literal a b c d

abbrev mutual
  pub decision_size : Decision → ℕ
  decision_size (leaf a b) = 1
  decision_size (switch a b) = suc (decisions_size b)
  decision_size (if_truth a b c) = suc (max (decision_size b) (decision_size c))
  decision_size (if_literal a b c d) = suc (max (decision_size c) (decision_size d))

  pub decisions_size : Decisions → ℕ
  decisions_size no_more = 0
  decisions_size (and_then t ts) = max (suc (decision_size t)) (decisions_size ts)
