-- Counts that only rise: how often a device failed, up to the largest number that a count can show.
use Rattle.std.specs.Prelude.{◌≡◌, ℕ, ◌+◌, ◌-◌, ◌^◌, ◌≤◌, min, Result, Err}

-- a count rose in a call, or stands at its last value
abbrev pub Rose : ℕ → ℕ → Type 0
Rose before now = min (before + 1) (2 ^ 64 - 1) ≤ now

-- the failure is answered only where the count rose
abbrev pub HasCause : {T E : Type 0} → E → ℕ → ℕ → Result T E → Type 0
HasCause failed before now result = result ≡ Err failed → Rose before now
