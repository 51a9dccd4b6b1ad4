-- What contracts see of a machine: the bodies that it runs, and what its run has come to.
use Rattle.std.specs.Prelude.{◌≡◌, ◌≢◌, ℕ, ◌<◌, ◌≤◌, List, Option, Some, None, slice_get}
use Rattle.mir_ir.specs.declared.body.Body.{Body}
use Rattle.mir_ir.specs.declared.terminator.FnId.{FnId}
use Rattle.mir_ir.specs.declared.terminator.FnId.TheVariants as fn_id
use Rattle.mir_machine.specs.declared.outcome.Outcome.{Outcome as Shown}
use Rattle.mir_machine.specs.declared.outcome.Outcome.TheVariants as shown
use Rattle.logic_term.specs.Theory.{Theory}
use Rattle.logic_term.specs.Ty.{Ty}
use Rattle.logic_term.specs.TyView.{tys_of}
use Rattle.mir_machine.specs.Good.{called, IsProper}
use Rattle.mir_machine.specs.Typed.{Met}
use Rattle.mir_machine.specs.Tree.{Tree}
use Rattle.mir_machine.specs.Frame.{State}
use Rattle.mir_machine.specs.Step.{Outcome, Running, Returned, Panicked, Stuck, after_from}
use Rattle.mir_ir.specs.declared.body.Bodies.{Bodies}
use Rattle.mir_machine.specs.Code.{code_of}

pub record Run : Type 0 where
  pub bodies : Bodies
  pub outcome : Outcome (Unit {0})

-- the body that is called
abbrev pub body_number : FnId → ℕ
body_number (fn_id.Body n) = n

-- the call of f is proper, at some declarations
abbrev pub CanCall : Bodies → FnId → List Ty → List (Tree (Unit {0})) → List (Tree (Unit {0})) → Type 0
CanCall bodies f types args held =
    (Θ : Theory) × (b : Body) × (met : List Met) × IsProper Θ bodies (body_number f) (tys_of types) args held b met

-- the run stands where the call of f begins
abbrev pub Starts : Bodies → FnId → List Ty → List (Tree (Unit {0})) → List (Tree (Unit {0})) → Run → Type 0
Starts bodies f types args held m =
    (b : Body) → slice_get bodies.bodies (body_number f) ≡ Some b →
    m ≡ record { bodies = bodies; outcome = Running (called b (body_number f) (tys_of types) args held) }

-- the run k steps on
abbrev pub ran : ℕ → Run → Run
ran k m = record m { outcome = after_from (code_of m.bodies) k m.outcome }

abbrev pub IsRunning : Outcome (Unit {0}) → Type 0
IsRunning (Running s) = Unit {0}
IsRunning (Returned s t) = ⊥
IsRunning (Panicked cause span) = ⊥
IsRunning Stuck = ⊥

-- k is n, or the least number of steps after which the run has ended
pub record IsRan (old : Run) (n : ℕ) (k : ℕ) (new : Run) : Type 0 where
  pub now : new ≡ ran k old
  pub at_most : k ≤ n
  pub least : (j : ℕ) → j < k → IsRunning (after_from (code_of old.bodies) j old.outcome)
  pub ended : k < n → IsRunning new.outcome → ⊥

-- what is shown of an outcome; nothing is shown of `Stuck`
abbrev pub ShownAs : Outcome (Unit {0}) → Shown → Type 0
ShownAs (Running s) r = r ≡ shown.Running
ShownAs (Returned s t) r = r ≡ shown.Returned
ShownAs (Panicked cause span) r = r ≡ shown.Panicked cause span
ShownAs Stuck r = ⊥

abbrev pub answer : Outcome (Unit {0}) → Option (Tree (Unit {0}))
answer (Running s) = None
answer (Returned s t) = Some t
answer (Panicked cause span) = None
answer Stuck = None

-- the state of a run that runs or has returned
abbrev pub StandsAt : Outcome (Unit {0}) → State (Unit {0}) → Type 0
StandsAt (Running s) r = r ≡ s
StandsAt (Returned s t) r = r ≡ s
StandsAt (Panicked cause span) r = Unit {0}
StandsAt Stuck r = ⊥

-- a step's outcome, by the code's answer
abbrev pub outcome_of_step : State (Unit {0}) → Option (Tree (Unit {0})) → Outcome (Unit {0})
outcome_of_step s None = Running s
outcome_of_step s (Some t) = Returned s t

-- no number of steps leads to a state where no row applies
abbrev pub NeverStuck : Bodies → Outcome (Unit {0}) → Type 0
NeverStuck bodies o = (n : ℕ) → after_from (code_of bodies) n o ≢ Stuck

-- what each machine keeps
abbrev pub IsSafe : Run → Type 0
IsSafe m = NeverStuck m.bodies m.outcome
