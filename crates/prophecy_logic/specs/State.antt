-- Path states: the walk forward. A state has, for each name, the term that it stands for now, as in symbolic execution (King 1976), and
-- what stands before a goal, the last entry first. A goal is its formula with the terms for its names, closed by these entries.
use Rattle.std.specs.Prelude.{◌≡◌, ℕ, suc, ◌+◌, ◌^◌, ◌≤◌, ◌<◌, true, List, [], ◌∷◌, ◌++◌, map, None}
use Rattle.text_core.specs.declared.name.Name.{Name}
use Rattle.logic_term.specs.Context.{closed}
use Rattle.logic_term.specs.declared.obligation.Obligation.{Obligation}
use Rattle.logic_term.specs.declared.subst.Replacement.{Replacement}
use Rattle.logic_term.specs.Free.{free}
use Rattle.logic_term.specs.Normal.{reduced}
use Rattle.logic_term.specs.Placed.{Placing, itself, placed}
use Rattle.logic_term.specs.Subst.{above, look, put_reduced}
use Rattle.logic_term.specs.Term.{Term, var}
use Rattle.prophecy_logic.specs.declared.command.Command.{Command}
use Rattle.prophecy_logic.specs.declared.command.Command.TheVariants.{Set, Fresh, Assume}
use Rattle.logic_term.specs.declared.context.Entry.{Entry}
use Rattle.logic_term.specs.declared.context.Entry.TheVariants.{Variable, Known}
use Rattle.prophecy_logic.specs.declared.goal.Goal.{Goal}
use Rattle.prophecy_logic.specs.Command.{before_all}

-- ---- states

pub record State : Type 0 where
  -- the terms of names, the first entry of a name counting
  pub terms : List Replacement
  -- past all numbers of new names
  pub next : ℕ
  -- what stands before a goal, the last entry first
  pub context : List Entry

-- the first number of the names that a walk makes, past all others: of sources, of locals, and of new values
unfoldable pub first_new : ℕ
first_new = 2 ^ 63 + 2 ^ 62 + 2 ^ 32 + 1

-- at the beginning each name stands for itself
abbrev pub start : State
start = record { terms = []; next = first_new; context = [] }

-- the formula's normal form, where the names stand for the state's terms
abbrev pub made : State → Term → Term
made s t = put_reduced s.next s.terms t

abbrev pub after : State → Command → State
after s (Set x t) = record { terms = record { name = x; by = made s t } ∷ s.terms; next = s.next; context = s.context }
after s (Fresh x q) = record { terms = record { name = x; by = var (record { 0 = s.next }) } ∷ s.terms; next = suc s.next; context = Variable (record { 0 = s.next }) q ∷ s.context }
after s (Assume a) = record { terms = s.terms; next = s.next; context = Known (made s a) ∷ s.context }

-- the goal at the state, closed
abbrev pub goal_at : State → Term → Term
goal_at s φ = closed s.context (made s φ)

-- the command's term has no name that a walk makes
abbrev pub IsBelow : Command → Type 0
IsBelow (Set x t) = above t ≤ first_new
IsBelow (Fresh x s) = Unit {0}
IsBelow (Assume a) = above a ≤ first_new

-- ---- states and commands

-- the entries' terms for the names of sources have free names below k, and placed by ν they are what τ says
abbrev pub Denote : ℕ → List Replacement → Placing → Placing → Type 0
Denote k σ ν τ = (x : Name) → x.0 < first_new → ((y : Name) → free y (look σ x) ≡ true → y.0 < k) × ((n : ℕ) → placed true n ν (look σ x) ≡ τ x n)

-- the state stands for the commands, where bound names are numbered from n on: whatever the goal, both ways it is placed in the same
-- surroundings, where ν says what the state's names are, and τ those of the goal
pub record MatchesFrom (n : ℕ) (cs : List Command) (s : State) : Type 0 where
  pub of_state : Placing
  pub of_goal : Placing
  pub depth : ℕ
  pub around : Term → Term
  pub state_is : (φ : Term) → placed true n itself (closed s.context φ) ≡ around (placed true depth of_state φ)
  pub commands_are : (φ : Term) → placed true n itself (before_all cs φ) ≡ around (placed true depth of_goal φ)
  pub denote : Denote s.next s.terms of_state of_goal

-- the state stands for the commands: a goal at it is the goal seen from before them
abbrev pub Matches : List Command → State → Type 0
Matches cs s = (n : ℕ) → MatchesFrom n cs s

-- the second state stands for what the first one does, and then these commands
pub record Leads (s : State) (cs : List Command) (s' : State) : Type 0 where
  pub leads : (ds : List Command) → Matches ds s → Matches (ds ++ cs) s'

-- ---- goals

-- the goal as it is seen from before the commands, its formula in normal form
abbrev pub closed_goal : List Command → Goal → Goal
closed_goal cs g = record { kind = g.kind; span = g.span; formula = reduced (before_all cs g.formula) }

abbrev pub closed_goals : List Command → List Goal → List Goal
closed_goals cs gs = map (closed_goal cs) gs

-- the goal at the state is the other one, seen from before whatever commands the state stands for
pub record IsGoalAt (s : State) (g h : Goal) : Type 0 where
  pub is : (cs : List Command) → Matches cs s → h ≡ closed_goal cs g

-- all goals are the first ones, and these at the state
pub record Adds (s : State) (first gs all : List Goal) : Type 0 where
  pub adds : (cs : List Command) → Matches cs s → all ≡ first ++ closed_goals cs gs

-- goals in normal form as obligations, numbered from n on
abbrev pub listed : List ℕ → ℕ → List Goal → List Obligation
listed owner n [] = []
listed owner n (g ∷ gs) = record { owner = owner; number = n; kind = g.kind; span = g.span; from = None; params = []; goal = g.formula } ∷ listed owner (n + 1) gs
