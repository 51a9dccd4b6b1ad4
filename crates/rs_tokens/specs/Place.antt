-- Where a lexer stands.
use Rattle.std.specs.Prelude.{◌≡◌, ℕ, ◌≤◌, ◌<◌, ◌^◌, List, length, drop, Option, None}
use Rattle.text_core.specs.declared.refusal.SourceError.{SourceError}

-- the bytes that the lexer was made from, the offset behind what it has given, and the refusal that it has come to
pub record Place : Type 0 where
  pub bytes : List ℕ
  pub at : ℕ
  pub refusal : Option SourceError

-- while nothing is refused, what is left stands behind the offset
pub record StandsAt (bytes rest : List ℕ) (at : ℕ) (refusal : Option SourceError) : Type 0 where
  pub within : at ≤ length bytes
  pub few : length bytes < 2 ^ 32
  pub left : refusal ≡ None → rest ≡ drop at bytes
