use Rattle.std.proofs.Common.{◌≡◌, ◌∙◌, true, reverse, sym, subst}
use Rattle.proof_kernel.specs.declared.kernel.Made.TheVariants.{Premises, TooWide, Nothing}
use Rattle.proof_kernel.specs.Kernel.{IsWide, cites_above}
use Rattle.proof_kernel.specs.Setting.{setting}
use Rattle.proof_kernel.proofs.KernelLaw.{wide_found, done_found, step_found, same_step}
use Rattle.proof_kernel.proofs.Once.{wide_is_not_done}
use Rattle.proof_kernel.proofs.kernel.Kernel.apply.Goals as goal

pub returns-in-TooWide-clause-wide : goal.returns-in-TooWide-clause-wide
returns-in-TooWide-clause-wide c = λ n e.
    let number : c.self.inside.step ≡ c.args.self.now.step = same_step (setting c.self.inside.scope) c.self.inside.step (reverse c.self.inside.stack.items) c.args.self.now c.self.view_is in
    let wide : IsWide c.args.self.now c.args.step.now = wide_found (setting c.self.inside.scope) c.self.inside.step c.self.inside.stack.items c.as_slice.result.now c.args.step.now
    c.in_ok-premises.field-0 c.args.self.now c.as_slice.ensures.value c.in_ok-premises.ensures c.self.view_is c.in-TooWide.is in
    (cc, cc, wide)

pub returns-in-TooWide-clause-done_where_due : goal.returns-in-TooWide-clause-done_where_due
returns-in-TooWide-clause-done_where_due c = λ due.
    let wide : IsWide c.args.self.now c.args.step.now = wide_found (setting c.self.inside.scope) c.self.inside.step c.self.inside.stack.items c.as_slice.result.now c.args.step.now
    c.in_ok-premises.field-0 c.args.self.now c.as_slice.ensures.value c.in_ok-premises.ensures c.self.view_is c.in-TooWide.is in
    absurd (wide_is_not_done c.args.self.now due.after c.args.step.now wide due.applies)

pub returns-in-TooWide-clause-fails_where_due : goal.returns-in-TooWide-clause-fails_where_due
returns-in-TooWide-clause-fails_where_due c = λ due.
    absurd (due.narrow (wide_found (setting c.self.inside.scope) c.self.inside.step c.self.inside.stack.items c.as_slice.result.now c.args.step.now
    c.in_ok-premises.field-0 c.args.self.now c.as_slice.ensures.value c.in_ok-premises.ensures c.self.view_is c.in-TooWide.is))

pub returns-in_ok-replace_last-in-Premises-clause-wide_where_due : goal.returns-in_ok-replace_last-in-Premises-clause-wide_where_due
returns-in_ok-replace_last-in-Premises-clause-wide_where_due c = λ due.
    let found : c.in_ok-premises.field-0 ≡ Premises c.in-Premises.premises = c.in-Premises.is in
    let done = done_found (setting c.self.inside.scope) c.self.inside.step c.self.inside.stack.items c.as_slice.result.now c.args.step.now
    c.in_ok-premises.field-0 c.args.self.now c.as_slice.ensures.value c.in_ok-premises.ensures c.self.view_is
    (λ (e : c.in_ok-premises.field-0 ≡ TooWide). cc) (λ (e : c.in_ok-premises.field-0 ≡ Nothing). cc) in
    absurd (wide_is_not_done c.args.self.now done.0 c.args.step.now due.wide done.1)

pub returns-in_ok-replace_last-in-Premises-clause-fails_where_due : goal.returns-in_ok-replace_last-in-Premises-clause-fails_where_due
returns-in_ok-replace_last-in-Premises-clause-fails_where_due c = λ due.
    let found : c.in_ok-premises.field-0 ≡ Premises c.in-Premises.premises = c.in-Premises.is in
    let done = done_found (setting c.self.inside.scope) c.self.inside.step c.self.inside.stack.items c.as_slice.result.now c.args.step.now
    c.in_ok-premises.field-0 c.args.self.now c.as_slice.ensures.value c.in_ok-premises.ensures c.self.view_is
    (λ (e : c.in_ok-premises.field-0 ≡ TooWide). cc) (λ (e : c.in_ok-premises.field-0 ≡ Nothing). cc) in
    absurd (due.fails done.0 done.1)

pub returns-in_ok-replace_last-in-Premises-clause-ok : goal.returns-in_ok-replace_last-in-Premises-clause-ok
returns-in_ok-replace_last-in-Premises-clause-ok c =
    let number : c.self.inside.step ≡ c.args.self.now.step = same_step (setting c.self.inside.scope) c.self.inside.step (reverse c.self.inside.stack.items) c.args.self.now c.self.view_is in
    let done = step_found (setting c.self.inside.scope) c.self.inside.step c.self.inside.stack.items c.as_slice.result.now c.args.step.now
    c.in_ok-premises.field-0 c.args.self.now c.as_slice.ensures.value c.in_ok-premises.ensures c.self.view_is
    c.in-Premises.premises (reverse c.replace_last.new.stack.items) c.in-Premises.is c.in_ok-replace_last-in-Premises.ensures.ok in
    (done, subst (λ s. cites_above s c.args.step.now ≡ true) number (sym c.cites_in_order.ensures ∙ c.if-not-cites_in_order.false))
