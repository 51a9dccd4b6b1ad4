use Rattle.proof_text.proofs.ListLemmas.{cut_last_is}
use Rattle.proof_text.proofs.word.cut_last.Goals as goal

pub returns : goal.returns
returns c = cut_last_is c.args.at c.args.word.now c.rsplit_once.result c.rsplit_once.ensures.cases c.requires
