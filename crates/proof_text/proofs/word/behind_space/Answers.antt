use Rattle.std.proofs.Common.{lit<}
use Rattle.std.proofs.lemmas.Str.Pattern.{strip_prefix_char}
use Rattle.proof_text.proofs.NumeralLemmas.{behind_is}
use Rattle.proof_text.proofs.word.behind_space.Goals as goal

pub returns : goal.returns
returns c = behind_is c.args.text.now c.strip_prefix.result (strip_prefix_char 32 c.args.text.now c.strip_prefix.result c.strip_prefix.ensures.cases (lit< tt))
