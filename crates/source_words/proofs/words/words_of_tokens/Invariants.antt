use Rattle.std.proofs.Common.{drop}
use Rattle.source_words.proofs.GivenTokens.{HasLeft}
use Rattle.source_words.proofs.words.words_of_tokens.Given as goal

abbrev pub invariant-loop-token : goal.invariant-loop-token
invariant-loop-token l = HasLeft l.fn.names l.names l.bytes l.words (drop l.token-index l.tokens)
