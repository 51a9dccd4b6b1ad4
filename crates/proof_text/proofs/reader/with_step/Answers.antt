use Rattle.std.proofs.Common.{refl, subst}
use Rattle.proof_text.specs.declared.reader.Stage.TheVariants as stages
use Rattle.proof_text.specs.ProofTextReads.{IsStageOf}
use Rattle.proof_text.proofs.StageLemmas.{step_goes_on}
use Rattle.proof_text.proofs.reader.with_step.Goals as goal

pub returns-in_ok-opened-in-Within : goal.returns-in_ok-opened-in-Within
returns-in_ok-opened-in-Within c = λ table s text h says.
    step_goes_on table s (stages.Within c.in-Within.proofs c.in-Within.opened) (stages.Within c.in-Within.proofs c.in_ok-opened-in-Within.opened) c.args.line text
    (record { line = c.args.line; step = c.args.step })
    (refl, c.in_ok-opened-in-Within.ensures.same.0, c.in_ok-opened-in-Within.ensures.same.1, c.in_ok-opened-in-Within.ensures.steps)
    (subst (IsStageOf table s) c.in-Within.is h) refl says
