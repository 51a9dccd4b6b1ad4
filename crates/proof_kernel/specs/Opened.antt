-- What is known before the formula of a goal, as hypotheses under names.
use Rattle.std.specs.Prelude.{◌≡◌, ◌≤◌, ℕ, zero, suc, List, [], ◌∷◌, ◌++◌, length, drop, zip}
use Rattle.text_core.specs.declared.name.Name.{Name}
use Rattle.logic_term.specs.declared.context.Entry.{Entry}
use Rattle.logic_term.specs.declared.context.Entry.TheVariants.{Variable, Known}
use Rattle.logic_term.specs.declared.kinds.Label2.{Label2}
use Rattle.logic_term.specs.declared.subst.Renaming.{Renaming}
use Rattle.logic_term.specs.Context.{closed, count_variables, numbered, numbered_term}
use Rattle.logic_term.specs.Subst.{renamed}
use Rattle.logic_term.specs.Term.{Term}
use Rattle.logic_term.specs.Ty.{Ty}
use Rattle.proof_kernel.specs.Intro.{taken}
use Rattle.proof_kernel.specs.Sequent.{Sequent}

-- the sorts of the variables, in their order
abbrev pub sorts_in : List Entry → List Ty
sorts_in [] = []
sorts_in (Variable x s ∷ es) = sorts_in es ++ s ∷ []
sorts_in (Known a ∷ es) = sorts_in es

-- how many formulas are known
abbrev pub count_known : List Entry → ℕ
count_known [] = 0
count_known (Variable x s ∷ es) = count_known es
count_known (Known a ∷ es) = suc (count_known es)

-- so many numbers, from i on, get the names at their places
abbrev pub renames_from : ℕ → ℕ → List Name → List Renaming
renames_from i zero xs = []
renames_from i (suc n) [] = []
renames_from i (suc n) (x ∷ xs) = record { from = record { 0 = i }; to = x } ∷ renames_from (suc i) n xs

-- the known formula behind the entries, under the names
abbrev pub known_under : List Name → List Entry → Term → Term
known_under names es a = renamed (renames_from 0 (count_variables es) names) (numbered_term es a)

-- the known formulas, under the names, as the hypotheses 1, 2, .. of step s
abbrev pub opened_hypotheses : ℕ → List Name → List Entry → List (Label2 × Term)
opened_hypotheses s names [] = []
opened_hypotheses s names (Variable x t ∷ es) = opened_hypotheses s names es
opened_hypotheses s names (Known a ∷ es) = opened_hypotheses s names es ++ (record { step = s; part = suc (count_known es) }, known_under names es a) ∷ []

-- the variables, under the names
abbrev pub opened_variables : List Name → List Entry → List (Name × Ty)
opened_variables names es = zip names (sorts_in es)

-- the sequent with the variables and the known formulas of the entries, under the names
abbrev pub opened_sequent : ℕ → List Name → List Entry → Term → Sequent
opened_sequent s names es goal = record { vars = opened_variables names es; hyps = opened_hypotheses s names es; goal = goal }

-- the sequent with the known formulas, under the names, as hypotheses
abbrev pub assuming_opened : Sequent → ℕ → List Name → List Entry → Sequent
assuming_opened q s names es = record { vars = q.vars; hyps = q.hyps ++ opened_hypotheses s names es; goal = q.goal }

-- from a goal with nothing before it, numbered entries are taken off at once, where there is a name for each variable
abbrev pub EntriesAreTakenOff : Type 0
EntriesAreTakenOff = (s : ℕ) (names : List Name) (es : List Entry) (φ goal : Term) → count_variables es ≤ length names
    → taken s 1 names [] (closed (numbered es) φ) (record { vars = []; hyps = []; goal = goal })
    ≡ taken s (suc (count_known es)) (drop (count_variables es) names) (renames_from 0 (count_variables es) names) φ (opened_sequent s names es goal)
