-- How far a proof goes.
use Rattle.std.specs.Prelude.{◌≡◌, ℕ, List, Some, take, slice_get}
use Rattle.proof_kernel.specs.Accepts.{Does, Runs}
use Rattle.proof_kernel.specs.Progress.{Progress}
use Rattle.proof_text.specs.declared.proof.NumberedStep.{NumberedStep}
use Rattle.verify_core.specs.Verdict.{steps_of}

-- so many of the steps are done, and the one behind them, where there is one, cannot be
pub record StopsBehind (before : Progress) (steps : List NumberedStep) (after : Progress) (done : ℕ) : Type 0 where
  pub runs : Runs before (steps_of (take done steps)) after
  pub stops : (n : NumberedStep) → slice_get steps done ≡ Some n → (next : Progress) → Does after n.step next → ⊥
