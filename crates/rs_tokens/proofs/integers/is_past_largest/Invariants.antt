use Rattle.std.proofs.Common.{◌≡◌, ◌≤◌, take, not}
use Rattle.std.specs.Prelude.{◌==◌, filter}
use Rattle.std.specs.Str.Parse.{digits_value}
use Rattle.rs_tokens.specs.Tokens.{largest_integer}
use Rattle.rs_tokens.proofs.integers.is_past_largest.Given as goal

abbrev pub invariant-loop-byte : goal.invariant-loop-byte
invariant-loop-byte l = record {
  value : l.value ≡ digits_value l.base (filter (λ b. not (b == 95)) (take l.byte-index l.digits));
  small : l.value ≤ largest_integer;
}
