use Rattle.std.proofs.Common.{◌≡◌, Some, ◌∙◌, sym, ap}
use Rattle.std.specs.Option.{option_copied}
use Rattle.proof_text.specs.ProofTextWords.{behind_space}
use Rattle.proof_text.proofs.ListLemmas.{spaced_is}
use Rattle.proof_text.proofs.lists.spaced_words.Goals as goal

pub returns : goal.returns
returns c =
    let behind : behind_space c.args.text.now ≡ Some c.in_ok-others.others.now = sym c.behind_space.ensures ∙ ap option_copied c.in_ok-others.ensures.ok_part in
    rw (spaced_is c.args.text.now c.in_ok-others.others.now behind) (sym c.in_ok-split_text.ensures.words)
