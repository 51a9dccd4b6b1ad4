use Rattle.call_words.proofs.PlainCalls.{asked_of-four, asked_of-two}
use Rattle.call_words.proofs.laws.plain_words_ask.Goals as goal

pub returns : goal.returns
returns c = record { two = asked_of-two; with_proofs = asked_of-four }
