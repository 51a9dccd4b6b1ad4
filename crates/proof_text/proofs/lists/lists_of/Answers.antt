use Rattle.std.proofs.Common.{rules, tests}
use Rattle.std.proofs.lemmas.Iterator.Consumers.{map_from_collect}
use Rattle.std.proofs.lemmas.Iterator.Splits.{YieldsList-from_slice_split}
use Rattle.std.proofs.lemmas.Result.{IfOk-at_ok}
use Rattle.proof_text.specs.ProofTextWords.{is_bar}
use Rattle.proof_text.proofs.ListLemmas.{lists_read}
use Rattle.proof_text.proofs.lists.lists_of.Goals as goal

pub returns : goal.returns
returns c =
    let parts = IfOk-at_ok _ c.in_ok-collect.was
    (map_from_collect _ c.collect.ensures.ran (YieldsList-from_slice_split _ (λ word. is_bar word.now) c.args.words.now c.split.ensures.rest c.split.ensures.done c.split.ensures.closure (λ x r q k. search (rules, tests)))) in
    lists_read c.in_ok-collect.field-0.items c.args.words.now parts
