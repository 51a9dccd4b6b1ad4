-- Which steps the kernel accepts as a proof.
use Rattle.std.specs.Prelude.{◌≡◌, ℕ, suc, true, List, [], ◌∷◌}
use Rattle.logic_term.specs.declared.obligation.Obligation.{Obligation}
use Rattle.proof_kernel.specs.declared.setting.Tables.{Tables}
use Rattle.proof_kernel.specs.declared.step.Step.{Step}
use Rattle.proof_kernel.specs.Sequent.{sequent_of}
use Rattle.proof_kernel.specs.Setting.{setting_of}
use Rattle.proof_kernel.specs.Progress.{Progress}
use Rattle.proof_kernel.specs.Kernel.{Applies, cites_above}

-- the step can be done, cites only steps above it, and makes this of the proof under way
pub record Does (before : Progress) (step : Step) (after : Progress) : Type 0 where
  pub applies : Applies before step after
  pub cites : cites_above before.step step ≡ true

-- the steps, one after the other, lead from the first to the second
pub data Runs : Progress → List Step → Progress → Type 0 where
  none : {k : Progress} → Runs k [] k
  more : {k m l : Progress} {step : Step} {steps : List Step} → Does k step m → Runs m steps l → Runs k (step ∷ steps) l

-- the proof of the obligation before its first step
abbrev pub begun : Tables → Obligation → Progress
begun T o = record { setting = setting_of T o; step = 1; left = sequent_of o ∷ [] }

-- the kernel does all steps, and no sequent is left
pub record Accepts (T : Tables) (o : Obligation) (steps : List Step) : Type 0 where
  pub last : Progress
  pub runs : Runs (begun T o) steps last
  pub closed : last.left ≡ []

-- from there so many steps are done, and then comes one that cannot be; or all are done, and a sequent is left
pub data RefusesFrom : Progress → List Step → ℕ → Type 0 where
  here : {k : Progress} {step : Step} {steps : List Step} → ((after : Progress) → Does k step after → ⊥) → RefusesFrom k (step ∷ steps) 0
  later : {k m : Progress} {step : Step} {steps : List Step} {n : ℕ} → Does k step m → RefusesFrom m steps n → RefusesFrom k (step ∷ steps) (suc n)
  «open» : {k : Progress} → (k.left ≡ [] → ⊥) → RefusesFrom k [] 0

-- the kernel does so many of the steps and refuses what follows them: a step, or the end
abbrev pub Refuses : Tables → Obligation → List Step → ℕ → Type 0
Refuses T o steps n = RefusesFrom (begun T o) steps n
