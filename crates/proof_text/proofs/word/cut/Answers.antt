use Rattle.std.proofs.lemmas.Str.Pattern.{split_once_first}
use Rattle.proof_text.proofs.NumeralLemmas.{cut_is}
use Rattle.proof_text.proofs.word.cut.Goals as goal

pub returns : goal.returns
returns c = cut_is c.args.at c.args.word.now c.split_once.result (split_once_first c.args.at c.args.word.now c.split_once.result c.split_once.ensures.cases c.requires)
