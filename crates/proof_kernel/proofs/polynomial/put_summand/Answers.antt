use Rattle.std.proofs.Common.{◌∙◌, ◌<◌, ◌≤◌, length, ap₂, arith}
use Rattle.proof_kernel.specs.PolynomialCode.{place}
use Rattle.proof_kernel.proofs.Found.{on_ok}
use Rattle.proof_kernel.proofs.PolynomialSteps.{put_at, put_last}
use Rattle.proof_kernel.proofs.polynomial.put_summand.Goals as goal

pub returns-then-at-len : goal.returns-then-at-len
returns-then-at-len c =
    let within : c.in_ok-at.at < length c.args.polynomial.now = omega (arith, c.len.ensures) in
    c.set.ensures ∙ put_at c.args.summand c.args.polynomial.now c.in_ok-at.at (c.in_ok-at.ensures ∙ ap₂ place c.as_slice.ensures c.as_slice-2.ensures) within

pub returns : goal.returns
returns c =
    let past : length c.args.polynomial.now ≤ c.in_ok-at.at = omega (arith, c.len.ensures) in
    on_ok c.push.result _ _ (λ e. e ∙ put_last c.args.summand c.args.polynomial.now c.in_ok-at.at (c.in_ok-at.ensures ∙ ap₂ place c.as_slice.ensures c.as_slice-2.ensures) past) c.push.ensures.ok
