use Rattle.std.proofs.lemmas.Iterator.Consumers.{map_from_collect}
use Rattle.std.proofs.lemmas.Iterator.Splits.{YieldsList-from_str_split}
use Rattle.std.proofs.lemmas.Result.{IfOk-at_ok}
use Rattle.proof_text.proofs.LineLemmas.{few_words}
use Rattle.proof_text.proofs.texts.split_text.Goals as goal

pub returns-clause-words : goal.returns-clause-words
returns-clause-words c = IfOk-at_ok _ c.in_ok-collect.was (map_from_collect _ c.collect.ensures.ran (YieldsList-from_str_split c.args.at c.args.text.now c.requires c.split.ensures.text c.split.ensures.has_more c.split.ensures.pattern))

pub returns-clause-count : goal.returns-clause-count
returns-clause-count c = few_words c.args.at c.in_ok-collect.field-0.items c.args.text.now
    (IfOk-at_ok _ c.in_ok-collect.was (map_from_collect _ c.collect.ensures.ran (YieldsList-from_str_split c.args.at c.args.text.now c.requires c.split.ensures.text c.split.ensures.has_more c.split.ensures.pattern)))
