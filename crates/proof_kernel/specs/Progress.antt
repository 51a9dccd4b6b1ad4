-- A proof under way.
use Rattle.std.specs.Prelude.{ℕ, List}
use Rattle.proof_kernel.specs.Sequent.{Sequent}
use Rattle.proof_kernel.specs.Setting.{Setting}

pub record Progress : Type 0 where
  pub setting : Setting
  -- the number of the next step, from 1
  pub step : ℕ
  -- the sequents that are left, in order
  pub left : List Sequent
