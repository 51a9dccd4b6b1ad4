use Rattle.std.proofs.Common.{◌∙◌, sym, ap, Err, true≢false}
use Rattle.proof_kernel.specs.declared.kernel.StepError.{StepError}
use Rattle.proof_kernel.proofs.Once.{wide_is_not_done}
use Rattle.creusot_pages.proofs.attempt.takes.Goals as goal

pub returns-in-Err-UnknownStep-clause-done : goal.returns-in-Err-UnknownStep-clause-done
returns-in-Err-UnknownStep-clause-done c = λ next does.
    let told = (c.in-Err-UnknownStep.ensures.unknown c.in-Err-UnknownStep.field-0-0).0 (ap (λ (e : StepError). Err e) c.in-Err-UnknownStep.field-0-is) in
    true≢false (sym does.cites ∙ told.1)

pub returns-in-Err-TooWide-clause-done : goal.returns-in-Err-TooWide-clause-done
returns-in-Err-TooWide-clause-done c = λ next does.
    let told = c.in-Err-TooWide.ensures.wide c.in-Err-TooWide.field-0-0 (ap (λ (e : StepError). Err e) c.in-Err-TooWide.field-0-is) in
    wide_is_not_done c.args.kernel.now next c.args.step.now told.2 does.applies

pub returns-in-Err-RuleFails-clause-done : goal.returns-in-Err-RuleFails-clause-done
returns-in-Err-RuleFails-clause-done c = λ next does.
    let told = c.in-Err-RuleFails.ensures.fails c.in-Err-RuleFails.field-0-0 (ap (λ (e : StepError). Err e) c.in-Err-RuleFails.field-0-is) in
    told.3 next does.applies
