use Rattle.std.proofs.Common.{◌≡◌, ◌≤◌, ◌+◌, ◌-◌, length, MatchOption}
use Rattle.std.specs.Str.{IsUtf8}
use Rattle.rs_tokens.specs.Reading.{IsNoText}
use Rattle.source_words.specs.Words.{Keeps}
use Rattle.source_words.proofs.WordLists.{HasRead}
use Rattle.source_words.proofs.words.words_of.Given as goal

abbrev pub invariant-loop-error : goal.invariant-loop-error
invariant-loop-error l = record {
  bytes : l.lexer.bytes ≡ l.bytes;
  within : l.lexer.at ≤ length l.bytes;
  state : MatchOption l.lexer.refusal (IsUtf8 l.bytes) (λ error. IsNoText l.bytes error);
  read : HasRead l.fn.names l.names l.bytes l.words l.lexer.at;
  kept : Keeps l.fn.names l.names;
  few : length l.names ≤ length l.fn.names + l.lexer.at;
}

abbrev pub decreases-loop-error : goal.decreases-loop-error
decreases-loop-error l = length l.bytes - l.lexer.at
