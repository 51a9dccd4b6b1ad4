use Rattle.std.proofs.Common.{◌≡◌, ◌≤◌, ◌-◌, length, None}
use Rattle.std.specs.Str.{IsUtf8}
use Rattle.rs_tokens.specs.Reading.{HasGiven}
use Rattle.text_tests.proofs.tokens.all_tokens.Given as goal

abbrev pub invariant-loop-tokens : goal.invariant-loop-tokens
invariant-loop-tokens l = record {
  bytes : l.lexer.bytes ≡ l.bytes;
  so_far : HasGiven l.bytes l.tokens.items l.lexer.at;
  within : l.lexer.at ≤ length l.bytes;
  text : l.lexer.refusal ≡ None → IsUtf8 l.bytes;
}

abbrev pub decreases-loop-tokens : goal.decreases-loop-tokens
decreases-loop-tokens l = length l.bytes - l.lexer.at
