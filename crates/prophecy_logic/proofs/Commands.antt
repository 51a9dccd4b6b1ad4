-- What is true before commands is true after them.
use Rattle.std.proofs.Common.{List, [], ◌∷◌, ◌++◌}
use Rattle.logic_term.specs.Meaning.{Structure, Env, Holds}
use Rattle.logic_term.specs.Term.{Term}
use Rattle.logic_term.proofs.Alike.{yes_alike}
use Rattle.logic_term.proofs.PlacedLaw.{replaced_means}
use Rattle.logic_term.proofs.Truth.{holds_implies, holds_forall}
use Rattle.prophecy_logic.specs.declared.command.Command.{Command}
use Rattle.prophecy_logic.specs.declared.goal.Goal.{Goal}
use Rattle.prophecy_logic.specs.Command.{before, before_all, Moves, by_set, by_fresh, by_assume, MovesAll, none, more}
use Rattle.prophecy_logic.specs.Walk.{seen_before}

module _ (S : Structure) where
  -- a formula that is true before a command is true where the command leads
  pub moved : {c : Command} {ρ σ : Env} (φ : Term) → Moves S c ρ σ → Holds S (before c φ) ρ → Holds S φ σ
  moved φ (by_set {x = x} {t = t} {ρ = ρ} w exactly) h = (yes_alike _ _ (replaced_means S x t φ ρ w exactly)).0 h
  moved φ (by_fresh {x = x} {s = s} {ρ = ρ} w sort) h = (holds_forall S x s φ ρ).0 h w sort
  moved φ (by_assume {a = a} {ρ = ρ} known) h = (holds_implies S a φ ρ).0 h known

  pub moved_all : {cs : List Command} {ρ σ : Env} (φ : Term) → MovesAll S cs ρ σ → Holds S (before_all cs φ) ρ → Holds S φ σ
  moved_all φ none h = h
  moved_all {cs = c ∷ cs} φ (more move rest) h = moved_all φ rest (moved (before_all cs φ) move h)

  pub then_moves : {cs ds : List Command} {ρ σ τ : Env} → MovesAll S cs ρ σ → MovesAll S ds σ τ → MovesAll S (cs ++ ds) ρ τ
  then_moves none n = n
  then_moves (more move rest) n = more move (then_moves rest n)

  -- ---- goals

  abbrev pub GoalsHold : Env → List Goal → Type 0
  GoalsHold ρ [] = Unit {0}
  GoalsHold ρ (g ∷ gs) = Holds S g.formula ρ × GoalsHold ρ gs

  pub goals_moved : {cs : List Command} {ρ σ : Env} (gs : List Goal) → MovesAll S cs ρ σ → GoalsHold ρ (seen_before cs gs) → GoalsHold σ gs
  goals_moved [] m h = tt
  goals_moved (g ∷ gs) m h = (moved_all g.formula m h.0, goals_moved gs m h.1)

  pub goals_first : (ρ : Env) (gs hs : List Goal) → GoalsHold ρ (gs ++ hs) → GoalsHold ρ gs
  goals_first ρ [] hs h = tt
  goals_first ρ (g ∷ gs) hs h = (h.0, goals_first ρ gs hs h.1)

  pub goals_rest : (ρ : Env) (gs hs : List Goal) → GoalsHold ρ (gs ++ hs) → GoalsHold ρ hs
  goals_rest ρ [] hs h = h
  goals_rest ρ (g ∷ gs) hs h = goals_rest ρ gs hs h.1
