use Rattle.std.proofs.Common.{rules, tests, ◌∙◌, sym}
use Rattle.std.proofs.lemmas.Iterator.{YieldsList-from_slice}
use Rattle.std.proofs.lemmas.Iterator.Search.{all_from_yields_List}
use Rattle.std.proofs.lemmas.List.Folds.{list_all-map}
use Rattle.proof_text.specs.ProofTextWords.{is_listed}
use Rattle.proof_text.proofs.StageLemmas.{now}
use Rattle.proof_text.proofs.lists.are_listed.Goals as goal

pub returns : goal.returns
returns c =
    all_from_yields_List (λ word. is_listed word.now) _ _ c.all.result c.all.ensures.ran (YieldsList-from_slice _ c.iter.ensures.rest) (λ x b q k. search (rules, tests))
    ∙ sym (list_all-map is_listed now c.args.words.now)
