use Rattle.std.proofs.Common.{subst}
use Rattle.proof_text.specs.declared.reader.Stage.TheVariants as stages
use Rattle.proof_text.specs.ProofTextReads.{IsStageOf}
use Rattle.proof_text.proofs.StageLemmas.{proof_goes_on}
use Rattle.proof_text.proofs.reader.closed.Goals as goal

pub returns-in_ok-more-in-Within : goal.returns-in_ok-more-in-Within
returns-in_ok-more-in-Within c = λ table s text h.
    let same = c.in_ok-proof-in-Within.ensures.same in
    proof_goes_on table s (stages.Within c.in-Within.proofs c.in-Within.opened) (stages.Between c.in_ok-more-in-Within.more) c.args.line text c.in_ok-proof-in-Within.proof
    (same.0, same.1, same.2, c.in_ok-more-in-Within.ensures)
    (subst (IsStageOf table s) c.in-Within.is h) same.3
