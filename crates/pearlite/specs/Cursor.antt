-- Where a cursor stands.
use Rattle.std.specs.Prelude.{ℕ, ◌≤◌, ◌^◌, List, length}
use Rattle.rs_tokens.specs.declared.token.Token.{Token}

-- a place among the tokens of a source, with so many levels open around it
pub record Standing : Type 0 where
  pub bytes : List ℕ
  pub tokens : List Token
  -- how many tokens stand before it
  pub place : ℕ
  pub levels : ℕ

-- the place is that of a token or behind the last, and the source and the levels have their bounds
pub record IsWithin (bytes : List ℕ) (tokens : List Token) (place levels : ℕ) : Type 0 where
  pub few : length bytes ≤ 2 ^ 20
  pub within : place ≤ length tokens
  pub deep : levels ≤ 64
