-- What is seen of names, and what is added to a sequent, while what leads the goal is taken off.
use Rattle.std.specs.Prelude.{◌≡◌, ℕ, suc, ◌≤◌, false, List, [], ◌∷◌, ◌++◌, length, drop, Option, Some, None}
use Rattle.text_core.specs.declared.name.Name.{Name}
use Rattle.logic_term.specs.declared.kinds.Label2.{Label2}
use Rattle.logic_term.specs.Free.{free}
use Rattle.logic_term.specs.declared.subst.Renaming.{Renaming}
use Rattle.logic_term.specs.Subst.{renamed}
use Rattle.logic_term.specs.Term.{implied, every, Term, apply, bind, no_terms, and_term, forall}
use Rattle.logic_term.specs.Ty.{Ty}
use Rattle.proof_kernel.specs.Sequent.{Sequent}
use Rattle.proof_kernel.specs.Rules.{free_in_hyps, label, with_goal}

-- one more hypothesis
abbrev pub assuming : Sequent → Label2 → Term → Sequent
assuming q l h = record { vars = q.vars; hyps = q.hyps ++ (l, h) ∷ []; goal = q.goal }

-- one more variable
abbrev pub declaring : Sequent → Name → Ty → Sequent
declaring q x s = record { vars = q.vars ++ (x, s) ∷ []; hyps = q.hyps; goal = q.goal }

-- no name from the number on is free in the sequent
abbrev pub IsAbove : ℕ → Sequent → Type 0
IsAbove n q = (x : Name) → n ≤ x.0 → (free_in_hyps x q.hyps ≡ false) × (free x q.goal ≡ false)

-- what comes of a list of names that is empty, and of one that is not
abbrev pub by_names : {A : Type 0} → List Name → A → (Name → List Name → A) → A
by_names [] none some = none
by_names (x ∷ xs) none some = some x xs

-- the sequent q without all that leads its goal, of which t is left. names: for the quantifiers that are left. bound: the names that those
-- before got. k: the number of the next hypothesis of step s
abbrev pub taken : (s : ℕ) → ℕ → List Name → List Renaming → Term → Sequent → Option Sequent
taken s k names bound (apply implied (and_term a (and_term b no_terms))) q = taken s (suc k) names bound b (assuming q (label s k) (renamed bound a))
taken s k names bound (apply implied ts) q = None
taken s k names bound (bind every y t b) q =
    by_names names (Some (with_goal q (renamed bound (forall y t b)))) (λ x others. taken s k others (bound ++ record { from = y; to = x } ∷ []) b (declaring q x t))
taken s k names bound t q = by_names names (Some (with_goal q (renamed bound t))) (λ x others. None)

-- with as many of the names used, what is left to be taken off gives what the whole gives
pub record TakesOn (s : ℕ) (names : List Name) (first : Sequent) (used k : ℕ) (bound : List Renaming) (t : Term) (q : Sequent) : Type 0 where
  pub within : used ≤ length names
  pub same : taken s 1 names [] first.goal first ≡ taken s k (drop used names) bound t q
