-- What each step makes of the first sequent, one case a rule.
use Rattle.std.specs.Prelude.{◌≡◌, ℕ, suc, ◌==◌, ◌||◌, ◌&&◌, Bool, true, false, List, [], ◌∷◌, ◌++◌, length, map, zip, Option, Some, None, if◌then◌else◌}
use Rattle.std.specs.Global.{Vec}
use Rattle.std.specs.List.{enumerate_from}
use Rattle.text_core.specs.declared.name.Name.{Name}
use Rattle.logic_term.specs.declared.kinds.Label2.{Label2}
use Rattle.logic_term.specs.Ty.{Ty}
use Rattle.logic_term.specs.Term.{both, Term, apply, no_terms, and_term, implies, forall, is_implication}
use Rattle.logic_term.specs.Free.{free}
use Rattle.logic_term.specs.declared.subst.Renaming.{Renaming}
use Rattle.logic_term.specs.Canonical.{is_one_of, canonical}
use Rattle.logic_term.specs.Same.{same_term}
use Rattle.logic_term.specs.Subst.{renamed}
use Rattle.proof_kernel.specs.Sequent.{Sequent}

-- ---- labels, variables and hypotheses

abbrev pub label : ℕ → ℕ → Label2
label s k = record { step = s; part = k }

abbrev pub same_label : Label2 → Label2 → Bool
same_label l m = l.step == m.step && l.part == m.part

-- the hypothesis of the label
abbrev pub hypothesis : Label2 → List (Label2 × Term) → Option Term
hypothesis l [] = None
hypothesis l (h ∷ hs) = if same_label l h.0 then Some h.1 else hypothesis l hs

-- the sort of the variable
abbrev pub sort_of : Name → List (Name × Ty) → Option Ty
sort_of x [] = None
sort_of x (v ∷ vs) = if x.0 == v.0.0 then Some v.1 else sort_of x vs

abbrev pub free_in_hyps : Name → List (Label2 × Term) → Bool
free_in_hyps x [] = false
free_in_hyps x (h ∷ hs) = free x h.1 || free_in_hyps x hs

-- the name is no variable of the sequent, and free nowhere in it
pub record IsNew (x : Name) (q : Sequent) : Type 0 where
  pub in_vars : sort_of x q.vars ≡ None
  pub in_hyps : free_in_hyps x q.hyps ≡ false
  pub in_goal : free x q.goal ≡ false

abbrev pub with_goal : Sequent → Term → Sequent
with_goal q t = record { vars = q.vars; hyps = q.hyps; goal = t }

-- the hypotheses without those of the label
abbrev pub without : Label2 → List (Label2 × Term) → List (Label2 × Term)
without l [] = []
without l (h ∷ hs) = if same_label l h.0 then without l hs else h ∷ without l hs

-- the variables without those of the name
abbrev pub without_variable : Name → List (Name × Ty) → List (Name × Ty)
without_variable x [] = []
without_variable x (v ∷ vs) = if x.0 == v.0.0 then without_variable x vs else v ∷ without_variable x vs

-- the sequent without the variable
abbrev pub removing : Name → Sequent → Sequent
removing x q = record { vars = without_variable x q.vars; hyps = q.hyps; goal = q.goal }

-- the terms are equal up to the names that they bind, as a truth value
abbrev pub same_up_to_names : Term → Term → Bool
same_up_to_names t u = same_term (canonical t) (canonical u)

-- ---- premises

-- the terms as the hypotheses k, k + 1, .. of step s
abbrev pub labelled : ℕ → ℕ → List Term → List (Label2 × Term)
labelled s k [] = []
labelled s k (t ∷ ts) = (label s k, t) ∷ labelled s (suc k) ts

-- the sequent with the terms as the hypotheses 1, 2, .. of step s
abbrev pub with_hyps : ℕ → Sequent → List Term → Sequent
with_hyps s q ts = record { vars = q.vars; hyps = q.hyps ++ labelled s 1 ts; goal = q.goal }

-- the sequent without the hypothesis
abbrev pub dropping : Label2 → Sequent → Sequent
dropping l q = record { vars = q.vars; hyps = without l q.hyps; goal = q.goal }

-- no premise, where the test holds
abbrev pub closed_if : Bool → Option (List Sequent)
closed_if true = Some []
closed_if false = None

-- the found premises are those that are given
abbrev pub Finds : Option (List Sequent) → Option (Vec Sequent) → Type 0
Finds given None = given ≡ None
Finds given (Some found) = given ≡ Some found.items

-- ---- intro: the quantifiers and premises that lead the goal are taken off

-- the names are new in the sequent, and no two are one
abbrev pub AreNew : List Name → Sequent → Type 0
AreNew [] q = Unit {0}
AreNew (x ∷ xs) q = IsNew x q × (is_one_of x xs ≡ false) × AreNew xs q

-- what may lead a goal
pub data Lead : Type 0 where
  premise : Term → Lead
  quantifier : Name → Ty → Lead

-- the formula in which these leads stand, one behind the other, and the end behind them
abbrev pub led_by : List Lead → Term → Term
led_by [] end = end
led_by (premise a ∷ leads) end = implies a (led_by leads end)
led_by (quantifier x t ∷ leads) end = forall x t (led_by leads end)

-- the variables of the quantifiers
abbrev pub variables : List Lead → List (Name × Ty)
variables [] = []
variables (premise a ∷ leads) = variables leads
variables (quantifier x t ∷ leads) = (x, t) ∷ variables leads

-- the premises, each with the variables that are quantified before it
abbrev pub premises : List Lead → List (List (Name × Ty) × Term)
premises [] = []
premises (premise a ∷ leads) = ([], a) ∷ premises leads
premises (quantifier x t ∷ leads) = map (λ p. ((x, t) ∷ p.0, p.1)) (premises leads)

-- the variables get the names at their places
abbrev pub renamings : List (Name × Ty) → List Name → List Renaming
renamings vs names = map (λ p. record { from = p.0.0; to = p.1 }) (zip vs names)

-- the variables, with their sorts, under the names at their places
abbrev pub under_names : List (Name × Ty) → List Name → List (Name × Ty)
under_names vs names = map (λ p. (p.1, p.0.1)) (zip vs names)

-- the premises as the hypotheses 1, 2, .. of step s, in each the names of the variables before it, put all at once
abbrev pub assumed : ℕ → List Name → List (List (Name × Ty) × Term) → List (Label2 × Term)
assumed s names ps = map (λ p. (label s p.0, renamed (renamings p.1.0 names) p.1.1)) (enumerate_from 1 ps)

-- leads are taken off the goal, among them a quantifier for each name, and no premise leads what is left
pub record TakesOff (s : ℕ) (names : List Name) (q r : Sequent) : Type 0 where
  pub leads : List Lead
  pub end : Term
  pub was : q.goal ≡ led_by leads end
  pub named : length names ≡ length (variables leads)
  pub whole : is_implication end ≡ false
  -- what is added, and what the goal is now
  pub vars : r.vars ≡ q.vars ++ under_names (variables leads) names
  pub hyps : r.hyps ≡ q.hyps ++ assumed s names (premises leads)
  pub goal : r.goal ≡ renamed (renamings (variables leads) names) end

-- leads are taken off under new names
pub record Intros (s : ℕ) (names : List Name) (q r : Sequent) : Type 0 where
  pub new : AreNew names q
  pub takes : TakesOff s names q r

-- at least one is taken off
abbrev pub TakesSome : List Name → Sequent → Type 0
TakesSome names q = names ≡ [] → is_implication q.goal ≡ true

-- ---- split

-- the conjuncts, at all levels
abbrev pub conjuncts : Term → List Term
conjuncts (apply both (and_term a (and_term b no_terms))) = conjuncts a ++ conjuncts b
conjuncts t = t ∷ []
