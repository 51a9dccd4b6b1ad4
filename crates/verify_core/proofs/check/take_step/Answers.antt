use Rattle.std.proofs.Common.{◌∙◌, sym, ap, Err, true≢false}
use Rattle.proof_kernel.specs.declared.kernel.StepError.{StepError}
use Rattle.proof_kernel.proofs.Once.{wide_is_not_done}
use Rattle.verify_core.proofs.check.take_step.Goals as goal

pub returns-in-Err-UnknownStep : goal.returns-in-Err-UnknownStep
returns-in-Err-UnknownStep c = λ next does.
    let told = (c.in-Err-UnknownStep.ensures.unknown c.in-Err-UnknownStep.field-0-0).0 (ap (λ (e : StepError). Err e) c.in-Err-UnknownStep.field-0-is) in
    true≢false (sym does.cites ∙ told.1)

pub returns-in-Err-TooWide : goal.returns-in-Err-TooWide
returns-in-Err-TooWide c = λ next does.
    let told = c.in-Err-TooWide.ensures.wide c.in-Err-TooWide.field-0-0 (ap (λ (e : StepError). Err e) c.in-Err-TooWide.field-0-is) in
    wide_is_not_done c.args.kernel.now next c.args.step.now told.2 does.applies

pub returns-in-Err-RuleFails : goal.returns-in-Err-RuleFails
returns-in-Err-RuleFails c = λ next does.
    let told = c.in-Err-RuleFails.ensures.fails c.in-Err-RuleFails.field-0-0 (ap (λ (e : StepError). Err e) c.in-Err-RuleFails.field-0-is) in
    told.3 next does.applies
