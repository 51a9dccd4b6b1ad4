use Rattle.rs_tokens.proofs.OneReading.{given_begins, given_whole, given_refused}
use Rattle.rs_tokens.proofs.laws.a_lexer_gives_the_tokens_of_the_text.Goals as goal

pub returns : goal.returns
returns c = record { begins = given_begins; whole = given_whole; refused = given_refused }
