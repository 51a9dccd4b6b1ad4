-- What the kernel makes of a step.
use Rattle.std.specs.Prelude.{◌≡◌, ◌⊎◌, ℕ, ◌+◌, Bool, true, List, [], ◌∷◌, ◌++◌, Option, Some, None, Result, Err, ◌&&◌, nat_lt}
use Rattle.std.specs.List.{list_all}
use Rattle.logic_term.specs.declared.kinds.Label2.{Label2}
use Rattle.proof_kernel.specs.Sequent.{Sequent}
use Rattle.proof_kernel.specs.declared.step.Multiple.{Multiple}
use Rattle.proof_kernel.specs.declared.step.Step.{Step}
use Rattle.proof_kernel.specs.declared.step.Step.TheVariants.{Lin}
use Rattle.proof_kernel.specs.declared.kernel.StepError.{StepError}
use Rattle.proof_kernel.specs.declared.kernel.StepError.TheVariants.{NoMemory}
use Rattle.proof_kernel.specs.Progress.{Progress}
use Rattle.proof_kernel.specs.Derivation.{Gives}
use Rattle.proof_kernel.specs.Steps.{labels_of}
use Rattle.proof_kernel.specs.Linear.{PassesWidth}

abbrev pub first_of : List Sequent → Option Sequent
first_of [] = None
first_of (q ∷ qs) = Some q

-- the step is done at the first sequent, whose place its premises take
pub record Applies (before : Progress) (step : Step) (after : Progress) : Type 0 where
  pub first : Sequent
  pub others : List Sequent
  pub premises : List Sequent
  pub was : before.left ≡ first ∷ others
  pub gives : Gives before.setting before.step first step premises
  pub is : after ≡ record before { step = before.step + 1; left = premises ++ others }

-- the label is of a step above the one with this number
abbrev pub is_above : ℕ → Label2 → Bool
is_above s l = nat_lt 0 l.step && nat_lt l.step s

-- each step that the step with this number cites is above it
abbrev pub cites_above : ℕ → Step → Bool
cites_above s step = list_all (is_above s) (labels_of step)

-- a number of the step's certificate passes 128 bits at the first sequent
pub record IsWide (before : Progress) (step : Step) : Type 0 where
  pub first : Sequent
  pub others : List Sequent
  pub multiples : List Multiple
  pub was : before.left ≡ first ∷ others
  pub is_lin : step ≡ Lin multiples
  pub passes : PassesWidth first multiples

-- no case of the rules fits the step at the first sequent
abbrev pub NothingApplies : Progress → Step → Type 0
NothingApplies before step = (after : Progress) → Applies before step after → ⊥

-- ---- which answer comes

-- the step cites only steps above it, and can be done
pub record CanBeDone (before : Progress) (step : Step) : Type 0 where
  pub cites : cites_above before.step step ≡ true
  pub after : Progress
  pub applies : Applies before step after

-- it cites only steps above it, and a number of its certificate passes 128 bits
pub record IsTooWide (before : Progress) (step : Step) : Type 0 where
  pub cites : cites_above before.step step ≡ true
  pub wide : IsWide before step

-- it cites only steps above it, no number passes 128 bits, and no case of the rules fits
pub record FitsNoRule (before : Progress) (step : Step) : Type 0 where
  pub cites : cites_above before.step step ≡ true
  pub narrow : ¬ (IsWide before step)
  pub fails : NothingApplies before step

-- the result is this answer, or memory was refused
abbrev pub UnlessNoMemory : Result (Unit {0}) StepError → Result (Unit {0}) StepError → Type 0
UnlessNoMemory result answer = (result ≡ answer) ⊎ (result ≡ Err NoMemory)
