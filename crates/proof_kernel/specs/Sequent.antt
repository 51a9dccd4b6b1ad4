-- Sequents, and their truth.
use Rattle.std.specs.Prelude.{List, [], ◌∷◌}
use Rattle.text_core.specs.declared.name.Name.{Name}
use Rattle.logic_term.specs.Ty.{Ty}
use Rattle.logic_term.specs.Term.{Term}
use Rattle.logic_term.specs.Sort.{HasSort, instance}
use Rattle.logic_term.specs.Theory.{declared}
use Rattle.logic_term.specs.Meaning.{Structure, Env, Holds}
use Rattle.logic_term.specs.declared.kinds.Label2.{Label2}
use Rattle.logic_term.specs.declared.obligation.Obligation.{Obligation}

-- variables with their sorts, labelled hypotheses, and a goal
pub record Sequent : Type 0 where
  pub vars : List (Name × Ty)
  pub hyps : List (Label2 × Term)
  pub goal : Term

-- each variable has a value of its sort
abbrev pub InSorts : Structure → List (Name × Ty) → Env → Type 0
InSorts S [] ρ = Unit {0}
InSorts S (x ∷ xs) ρ = HasSort (declared S.theory) (ρ x.0) (instance S.types x.1) × InSorts S xs ρ

-- all hypotheses are true
abbrev pub AllHold : Structure → List (Label2 × Term) → Env → Type 0
AllHold S [] ρ = Unit {0}
AllHold S (h ∷ hs) ρ = Holds S h.1 ρ × AllHold S hs ρ

-- at every environment that gives each variable a value of its sort: where all hypotheses are true, the goal is
abbrev pub IsTrueAt : Structure → Sequent → Type 0
IsTrueAt S q = (ρ : Env) → InSorts S q.vars ρ → AllHold S q.hyps ρ → Holds S q.goal ρ

abbrev pub AllTrueAt : Structure → List Sequent → Type 0
AllTrueAt S [] = Unit {0}
AllTrueAt S (q ∷ qs) = IsTrueAt S q × AllTrueAt S qs

-- the sequent with which the proof of an obligation begins
abbrev pub sequent_of : Obligation → Sequent
sequent_of o = record { vars = []; hyps = []; goal = o.goal }
