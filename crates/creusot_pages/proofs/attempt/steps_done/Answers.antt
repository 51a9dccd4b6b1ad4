use Rattle.std.proofs.Common.{◌∙◌, ℕ, ◌+◌, Bool, Ok, get_or, ap, subst, arith}
use Rattle.proof_kernel.specs.Accepts.{Does, none}
use Rattle.verify_core.specs.VerdictWords.{TakesStep}
use Rattle.creusot_pages.proofs.AttemptLaws.{goes_on, stops_there, stops_at_end, done_number}
use Rattle.creusot_pages.proofs.attempt.steps_done.Goals as goal

pub loop-i-init : goal.loop-i-init
loop-i-init c = record { runs = none; number = c.requires.begun }

pub returns-then-not-branch : goal.returns-then-not-branch
returns-then-not-branch c =
    stops_there c.args.kernel.now c.args.steps.now c.loop-i.i c.index-steps-i.result c.loop-i.kernel c.takes.new.kernel
    (c.in_ok-takes.ensures.unchanged (ap (λ (b : Bool). Ok b) c.if-not-branch.true))
    c.loop-i.invariant.runs
    (subst (λ (done : Bool). TakesStep c.loop-i.kernel (get_or c.args.steps.now c.loop-i.i c.index-steps-i.result).step c.takes.new.kernel done) c.if-not-branch.true c.in_ok-takes.ensures.done)

pub loop-i-preserved : goal.loop-i-preserved
loop-i-preserved c =
    let does : Does c.loop-i.kernel (get_or c.args.steps.now c.loop-i.i c.index-steps-i.result).step c.takes.new.kernel =
    subst (λ (done : Bool). TakesStep c.loop-i.kernel (get_or c.args.steps.now c.loop-i.i c.index-steps-i.result).step c.takes.new.kernel done) c.if-not-branch.false c.in_ok-takes.ensures.done in
    record {
      runs = goes_on c.args.kernel.now c.args.steps.now c.loop-i.i c.index-steps-i.result c.loop-i.kernel c.takes.new.kernel c.loop-i-test.true c.loop-i.invariant.runs does;
      number = done_number c.loop-i.kernel c.takes.new.kernel (get_or c.args.steps.now c.loop-i.i c.index-steps-i.result).step does ∙ ap (λ (n : ℕ). n + 1) c.loop-i.invariant.number;
    }

pub returns : goal.returns
returns c = stops_at_end c.args.kernel.now c.args.steps.now c.loop-i.i c.loop-i.kernel (omega arith) c.loop-i.invariant.runs
