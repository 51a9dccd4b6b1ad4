-- What a step by the form of the goal gives.
use Rattle.std.specs.Prelude.{ℕ, Bool, true, false, List, [], ◌∷◌, map, Option, Some, None, if◌then◌else◌}
use Rattle.text_core.specs.declared.name.Name.{Name}
use Rattle.logic_term.specs.Ty.{Ty}
use Rattle.logic_term.specs.Term.{denied, equal, either, Term, truth, apply, no_terms, and_term, not, implies, is_at_most}
use Rattle.proof_kernel.specs.Sequent.{Sequent}
use Rattle.proof_kernel.specs.declared.step.GoalRule.{GoalRule}
use Rattle.proof_kernel.specs.declared.step.GoalRule.TheVariants.{Refl, Truth, Left, Right, Contra, ByContradiction, Iff, Antisymmetry}
use Rattle.proof_kernel.specs.SortTests.{are_formulas, are_integers}
use Rattle.proof_kernel.specs.Rules.{same_up_to_names, with_goal, with_hyps, closed_if}

-- ---- forms

-- an equation of a term with itself, up to the names that both sides bind
abbrev pub is_reflexive : Term → Bool
is_reflexive (apply equal (and_term a (and_term b no_terms))) = same_up_to_names a b
is_reflexive t = false

abbrev pub is_true : Term → Bool
is_true (truth true) = true
is_true t = false

-- the sides of a disjunction
abbrev pub left_of : Term → Option Term
left_of (apply either (and_term a (and_term b no_terms))) = Some a
left_of t = None

abbrev pub right_of : Term → Option Term
right_of (apply either (and_term a (and_term b no_terms))) = Some b
right_of t = None

-- what is denied
abbrev pub denied_of : Term → Option Term
denied_of (apply denied (and_term a no_terms)) = Some a
denied_of t = None

-- an equation of formulas: each implies the other
abbrev pub both_ways : List (Name × Ty) → Term → Option (List Term)
both_ways vars (apply equal (and_term a (and_term b no_terms))) = if are_formulas vars a b then Some (implies a b ∷ implies b a ∷ []) else None
both_ways vars t = None

-- an equation of integers: each is at most the other
abbrev pub both_orders : List (Name × Ty) → Term → Option (List Term)
both_orders vars (apply equal (and_term a (and_term b no_terms))) = if are_integers vars a b then Some (is_at_most a b ∷ is_at_most b a ∷ []) else None
both_orders vars t = None

-- ---- premises

-- the goal instead
abbrev pub to_show : Sequent → Option Term → Option (List Sequent)
to_show q None = None
to_show q (Some t) = Some (with_goal q t ∷ [])

-- each of the goals instead
abbrev pub to_show_all : Sequent → Option (List Term) → Option (List Sequent)
to_show_all q None = None
to_show_all q (Some ts) = Some (map (with_goal q) ts)

-- the hypothesis, and the goal `false`
abbrev pub refuting : ℕ → Sequent → Term → Sequent
refuting s q t = with_goal (with_hyps s q (t ∷ [])) (truth false)

abbrev pub to_refute : ℕ → Sequent → Option Term → Option (List Sequent)
to_refute s q None = None
to_refute s q (Some t) = Some (refuting s q t ∷ [])

-- what step s gives by the rule
abbrev pub goal_rule : GoalRule → ℕ → Sequent → Option (List Sequent)
goal_rule Refl s q = closed_if (is_reflexive q.goal)
goal_rule Truth s q = closed_if (is_true q.goal)
goal_rule Left s q = to_show q (left_of q.goal)
goal_rule Right s q = to_show q (right_of q.goal)
goal_rule Contra s q = to_refute s q (denied_of q.goal)
goal_rule ByContradiction s q = Some (refuting s q (not q.goal) ∷ [])
goal_rule Iff s q = to_show_all q (both_ways q.vars q.goal)
goal_rule Antisymmetry s q = to_show_all q (both_orders q.vars q.goal)
