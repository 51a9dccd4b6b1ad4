use Rattle.std.proofs.Common.{lit<}
use Rattle.std.proofs.lemmas.Str.Pattern.{strip_suffix_char}
use Rattle.proof_text.proofs.NumeralLemmas.{before_is}
use Rattle.proof_text.proofs.word.before_space.Goals as goal

pub returns : goal.returns
returns c = before_is c.args.text.now c.strip_suffix.result (strip_suffix_char 32 c.args.text.now c.strip_suffix.result c.strip_suffix.ensures.cases (lit< tt))
