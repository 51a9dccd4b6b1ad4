use Rattle.std.proofs.Common.{lit<}
use Rattle.std.proofs.lemmas.Str.Pattern.{strip_prefix_char}
use Rattle.proof_text.proofs.NumeralLemmas.{minus_is}
use Rattle.proof_text.proofs.word.after_minus.Goals as goal

pub returns : goal.returns
returns c = minus_is c.args.word.now c.strip_prefix.result (strip_prefix_char 45 c.args.word.now c.strip_prefix.result c.strip_prefix.ensures.cases (lit< tt))
