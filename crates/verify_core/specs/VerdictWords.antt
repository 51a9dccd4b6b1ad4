-- What the calls that check proofs answer.
use Rattle.std.specs.Prelude.{ℕ, Bool, true, false, List, Option, None, Some}
use Rattle.logic_term.specs.declared.obligation.Obligation.{Obligation}
use Rattle.proof_kernel.specs.declared.setting.Tables.{Tables}
use Rattle.proof_kernel.specs.declared.step.Step.{Step}
use Rattle.proof_kernel.specs.Accepts.{Does, Accepts}
use Rattle.proof_kernel.specs.Progress.{Progress}
use Rattle.proof_text.specs.declared.proof.NumberedStep.{NumberedStep}
use Rattle.verify_core.specs.Verdict.{steps_of, IsRefusedAt}

-- whether the step was done; where it cannot be, nothing changes
abbrev pub TakesStep : Progress → Step → Progress → Bool → Type 0
TakesStep before step after true = Does before step after
TakesStep before step after false = (next : Progress) → Does before step next → ⊥

-- the steps are a proof, or refused at this line
abbrev pub Checks : Tables → Obligation → List NumberedStep → ℕ → Option ℕ → Type 0
Checks T o steps «end» None = Accepts T o (steps_of steps)
Checks T o steps «end» (Some line) = IsRefusedAt T o steps «end» line
