-- What the kernel finds for a step before it takes it.
use Rattle.std.specs.Prelude.{◌≡◌, ℕ, List, [], ◌∷◌}
use Rattle.proof_kernel.specs.Sequent.{Sequent}
use Rattle.proof_kernel.specs.declared.step.Step.{Step}
use Rattle.proof_kernel.specs.declared.step.Step.TheVariants.{Lin}
use Rattle.proof_kernel.specs.declared.kernel.Made.{Made}
use Rattle.proof_kernel.specs.declared.kernel.Made.TheVariants.{Premises, TooWide, Nothing}
use Rattle.proof_kernel.specs.Setting.{Setting}
use Rattle.proof_kernel.specs.Linear.{PassesWidth}
use Rattle.proof_kernel.specs.Derivation.{Gives}

-- a number of the step's certificate passes 128 bits
abbrev pub PassesWidthAt : Sequent → Step → Type 0
PassesWidthAt q (Lin ms) = PassesWidth q ms
PassesWidthAt q step = ⊥

abbrev pub GivesNothing : Setting → ℕ → Sequent → Step → Type 0
GivesNothing w s q step = (premises : List Sequent) → Gives w s q step premises → ⊥

abbrev pub IsMade : Setting → ℕ → Sequent → Step → Made → Type 0
IsMade w s q step (Premises found) = Gives w s q step found.items
IsMade w s q step TooWide = PassesWidthAt q step
IsMade w s q step Nothing = GivesNothing w s q step × (PassesWidthAt q step → ⊥)

-- at the first of the sequents
abbrev pub IsMadeFirst : Setting → ℕ → List Sequent → Step → Made → Type 0
IsMadeFirst w s [] step found = found ≡ Nothing
IsMadeFirst w s (q ∷ qs) step found = IsMade w s q step found

-- all sequents but the first
abbrev pub others_of : List Sequent → List Sequent
others_of [] = []
others_of (q ∷ qs) = qs
