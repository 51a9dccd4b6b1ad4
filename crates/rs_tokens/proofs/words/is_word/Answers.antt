use Rattle.std.proofs.Common.{sym}
use Rattle.rs_tokens.proofs.IdentifierLaws.{whole_word, no_whole_word}
use Rattle.rs_tokens.proofs.words.is_word.Goals as goal

pub returns-in-Some : goal.returns-in-Some
returns-in-Some c = whole_word c.args.text.now c.in-Some.len c.in-Some.ensures.longest

pub returns-in-None : goal.returns-in-None
returns-in-None c = sym (no_whole_word c.args.text.now c.in-None.ensures.longest)
