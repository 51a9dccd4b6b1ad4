use Rattle.std.proofs.Common.{◌≡◌, take, not}
use Rattle.std.specs.Prelude.{◌==◌, filter}
use Rattle.std.specs.Str.Parse.{digits_value}
use Rattle.source_words.proofs.integers.digits_value.Given as goal

abbrev pub invariant-loop-byte : goal.invariant-loop-byte
invariant-loop-byte l = l.value ≡ digits_value l.base (filter (λ b. not (b == 95)) (take l.byte-index l.digits))
