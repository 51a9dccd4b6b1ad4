-- What a step by the form of a hypothesis gives.
use Rattle.std.specs.Prelude.{ℕ, Bool, true, false, List, [], ◌∷◌, ◌++◌, map, Option, Some, None, if◌then◌else◌}
use Rattle.text_core.specs.declared.name.Name.{Name}
use Rattle.logic_term.specs.declared.kinds.Label2.{Label2}
use Rattle.logic_term.specs.Ty.{Ty}
use Rattle.logic_term.specs.Term.{denied, equal, both, either, implied, choice, Quantifier, every, some, Term, truth, apply, bind, no_terms, and_term, not, and, or, implies}
use Rattle.proof_kernel.specs.Sequent.{Sequent}
use Rattle.proof_kernel.specs.declared.step.HypothesisRule.{HypothesisRule}
use Rattle.proof_kernel.specs.declared.step.HypothesisRule.TheVariants.{Cases, Absurd, Drop, Revert, Back, Inject, Differ}
use Rattle.proof_kernel.specs.BackRule.{back_of}
use Rattle.proof_kernel.specs.ConstructorRules.{injected, equates_apart}
use Rattle.proof_kernel.specs.PairRules.{adding}
use Rattle.proof_kernel.specs.SortTests.{are_formulas}
use Rattle.proof_kernel.specs.Rules.{hypothesis, conjuncts, with_goal, with_hyps, dropping, closed_if}

abbrev pub is_false : Term → Bool
is_false (truth false) = true
is_false t = false

-- ---- cases

abbrev pub is_disjunction : Term → Bool
is_disjunction (apply either ts) = true
is_disjunction t = false

-- the disjuncts, at all levels
abbrev pub disjuncts : Term → List Term
disjuncts (apply either (and_term a (and_term b no_terms))) = disjuncts a ++ disjuncts b
disjuncts t = t ∷ []

abbrev pub alone : Term → List Term
alone t = t ∷ []

abbrev pub other_quantifier : Quantifier → Quantifier
other_quantifier every = some
other_quantifier some = every

-- the denial of the formula, pushed inward by one level
abbrev pub pushed : Term → Option Term
pushed (apply both (and_term a (and_term b no_terms))) = Some (or (not a) (not b))
pushed (apply either (and_term a (and_term b no_terms))) = Some (and (not a) (not b))
pushed (apply implied (and_term a (and_term b no_terms))) = Some (and a (not b))
pushed (apply denied (and_term a no_terms)) = Some a
pushed (bind q x s t) = Some (bind (other_quantifier q) x s (not t))
pushed t = None

-- one case, of this formula alone
abbrev pub one_case : Option Term → Option (List (List Term))
one_case None = None
one_case (Some t) = Some (alone t ∷ [])

-- both formulas are true or both are false; or just one of them is true
abbrev pub value_cases : Bool → Term → Term → List (List Term)
value_cases true a b = (a ∷ b ∷ []) ∷ (not a ∷ not b ∷ []) ∷ []
value_cases false a b = (a ∷ not b ∷ []) ∷ (not a ∷ b ∷ []) ∷ []

abbrev pub if_formulas : List (Name × Ty) → Bool → Term → Term → Option (List (List Term))
if_formulas vars same a b = if are_formulas vars a b then Some (value_cases same a b) else None

-- the condition of an `if` is true, and its first side is, or not; or it is false, and its second side is, or not
abbrev pub choice_cases : Bool → Term → Term → Term → List (List Term)
choice_cases holds c a b = (c ∷ (if holds then a else not a) ∷ []) ∷ (not c ∷ (if holds then b else not b) ∷ []) ∷ []

-- the cases of a denial
abbrev pub denied_cases : List (Name × Ty) → Term → Option (List (List Term))
denied_cases vars (apply equal (and_term a (and_term b no_terms))) = if_formulas vars false a b
denied_cases vars (apply choice (and_term c (and_term a (and_term b no_terms)))) = Some (choice_cases false c a b)
denied_cases vars t = one_case (pushed t)

-- the formulas of each case, by the form of what is taken apart; one case at least is so where that is true
abbrev pub cases_of : List (Name × Ty) → Term → Option (List (List Term))
cases_of vars (apply both (and_term a (and_term b no_terms))) = Some ((conjuncts a ++ conjuncts b) ∷ [])
cases_of vars (apply either (and_term a (and_term b no_terms))) = Some (map alone (disjuncts a ++ disjuncts b))
cases_of vars (apply implied (and_term a (and_term b no_terms))) = Some (alone (not a) ∷ alone b ∷ [])
cases_of vars (apply equal (and_term a (and_term b no_terms))) = if_formulas vars true a b
cases_of vars (apply choice (and_term c (and_term a (and_term b no_terms)))) = Some (choice_cases true c a b)
cases_of vars (apply denied (and_term a no_terms)) = denied_cases vars a
cases_of vars t = None

-- a premise for each case
abbrev pub in_cases : ℕ → Sequent → Option (List (List Term)) → Option (List Sequent)
in_cases s q None = None
in_cases s q (Some cases) = Some (map (with_hyps s q) cases)

-- one case, of these formulas
abbrev pub together : Option (List Term) → Option (List (List Term))
together None = None
together (Some ts) = Some (ts ∷ [])

-- ---- what step s gives

-- by the rule on the hypothesis h of the label l
abbrev pub on_hypothesis : HypothesisRule → ℕ → Label2 → Sequent → Term → Option (List Sequent)
on_hypothesis Cases s l q h = in_cases s q (cases_of q.vars h)
on_hypothesis Absurd s l q h = closed_if (is_false h)
on_hypothesis Drop s l q h = Some (dropping l q ∷ [])
on_hypothesis Revert s l q h = Some (with_goal (dropping l q) (implies h q.goal) ∷ [])
on_hypothesis Back s l q h = adding s q (back_of q.vars h)
on_hypothesis Inject s l q h = in_cases s q (together (injected h))
on_hypothesis Differ s l q h = closed_if (equates_apart h)

abbrev pub if_there : HypothesisRule → ℕ → Label2 → Sequent → Option Term → Option (List Sequent)
if_there r s l q None = None
if_there r s l q (Some h) = on_hypothesis r s l q h

abbrev pub hypothesis_rule : HypothesisRule → ℕ → Label2 → Sequent → Option (List Sequent)
hypothesis_rule r s l q = if_there r s l q (hypothesis l q.hyps)
