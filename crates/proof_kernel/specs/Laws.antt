-- What is true of the definitions.
use Rattle.std.specs.Prelude.{◌≡◌, ◌↔◌, ℕ, List}
use Rattle.std.specs.List.{Contains}
use Rattle.logic_term.specs.declared.kinds.Label2.{Label2}
use Rattle.logic_term.specs.Meaning.{Structure}
use Rattle.logic_term.specs.Obligations.{IsTrueObligation}
use Rattle.logic_term.specs.declared.obligation.Obligation.{Obligation}
use Rattle.proof_kernel.specs.Sequent.{Sequent}
use Rattle.proof_kernel.specs.declared.setting.Tables.{Tables}
use Rattle.proof_kernel.specs.declared.step.Step.{Step}
use Rattle.proof_kernel.specs.Sequent.{IsTrueAt, AllTrueAt}
use Rattle.proof_kernel.specs.Setting.{Setting, IsStructureOf, theory_of}
use Rattle.proof_kernel.specs.Derivation.{Gives, CitedAreTrue, IsProof}
use Rattle.proof_kernel.specs.Progress.{Progress}
use Rattle.proof_kernel.specs.Kernel.{Applies, IsWide}
use Rattle.proof_kernel.specs.Accepts.{Accepts, Refuses}
use Rattle.proof_kernel.specs.Steps.{labels_of, IsLabelOf, AddsItsOwn}

-- the goal of an obligation that has a proof is true, in the theory of the tables of the proof
abbrev pub DerivedIsTrue : Type 0
DerivedIsTrue = (T : Tables) (o : Obligation) (steps : List Step) → IsProof T o steps → IsTrueObligation (theory_of T) o

-- where what a step cites and all premises that it gives are true, the sequent is
abbrev pub RulesAreSound : Type 0
RulesAreSound = (w : Setting) (S : Structure) → IsStructureOf w S → (s : ℕ) (q : Sequent) (step : Step) (premises : List Sequent)
    → Gives w s q step premises → CitedAreTrue w S step → AllTrueAt S premises → IsTrueAt S q

-- what a step cites is there, and what it adds to a sequent is its own
pub record StepsNameTheirOwn : Type 0 where
  pub cited : (w : Setting) (s : ℕ) (q : Sequent) (step : Step) (premises : List Sequent) → Gives w s q step premises → (l : Label2) → Contains (labels_of step) l → IsLabelOf q l
  pub added : (w : Setting) (s : ℕ) (q : Sequent) (step : Step) (premises : List Sequent) → Gives w s q step premises → (premise : Sequent) → Contains premises premise → AddsItsOwn s q step premise

-- where a step can be done, there is one result
abbrev pub StepsGiveOneResult : Type 0
StepsGiveOneResult = (before after other : Progress) (step : Step) → Applies before step after → Applies before step other → after ≡ other

-- a step that is too wide cannot be done
abbrev pub WideIsNotDone : Type 0
WideIsNotDone = (before after : Progress) (step : Step) → IsWide before step → Applies before step after → ⊥

-- what the kernel accepts is what is a proof
abbrev pub AcceptsExactlyProofs : Type 0
AcceptsExactlyProofs = (T : Tables) (o : Obligation) (steps : List Step) → Accepts T o steps ↔ IsProof T o steps

-- steps are refused at one place at most, and at none where they are accepted
pub record RefusesOnce : Type 0 where
  pub one_place : (T : Tables) (o : Obligation) (steps : List Step) (m n : ℕ) → Refuses T o steps m → Refuses T o steps n → m ≡ n
  pub not_accepted : (T : Tables) (o : Obligation) (steps : List Step) (n : ℕ) → Accepts T o steps → Refuses T o steps n → ⊥
