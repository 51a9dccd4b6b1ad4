use Rattle.std.proofs.Common.{◌≡◌, ◌≤◌, ◌-◌, length}
use Rattle.rs_tokens.specs.Reading.{HasGiven}
use Rattle.source_words.proofs.TokenLists.{State}
use Rattle.source_words.proofs.tokens.tokens_of.Given as goal

abbrev pub invariant-loop-error : goal.invariant-loop-error
invariant-loop-error l = record {
  bytes : l.lexer.bytes ≡ l.bytes;
  within : l.lexer.at ≤ length l.bytes;
  state : State l.bytes l.lexer.refusal;
  given : HasGiven l.bytes l.tokens l.lexer.at;
  few : length l.tokens ≤ l.lexer.at;
}

abbrev pub decreases-loop-error : goal.decreases-loop-error
decreases-loop-error l = length l.bytes - l.lexer.at
