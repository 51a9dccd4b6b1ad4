use Rattle.std.proofs.Common.{◌∙◌, ℕ, ◌+◌, Bool, sym, ap, subst, arith, true≢false}
use Rattle.proof_kernel.specs.Progress.{Progress}
use Rattle.proof_kernel.specs.Accepts.{Does}
use Rattle.verify_core.specs.VerdictWords.{TakesStep}
use Rattle.verify_core.proofs.RunLaws.{begins, goes_on, refused_there, left_open, done_number}
use Rattle.verify_core.proofs.check.refused_line.Goals as goal

pub loop-numbered-init : goal.loop-numbered-init
loop-numbered-init c = record {
  runs = begins c.args.tables.now c.args.obligation.now c.in_ok-kernel.kernel c.in_ok-kernel.ensures;
  number = ap (λ (k : Progress). k.step) c.in_ok-kernel.ensures;
}

pub returns-then-not-branch : goal.returns-then-not-branch
returns-then-not-branch c =
    refused_there c.args.tables.now c.args.obligation.now c.args.steps.now c.args.end c.loop-numbered.numbered-index c.numbered-item.result c.loop-numbered.kernel
    c.loop-numbered-test.true c.numbered-item.is c.loop-numbered.invariant.runs
    (subst (λ (done : Bool). TakesStep c.loop-numbered.kernel c.numbered-item.result.step c.take_step.new.kernel done) c.if-not-branch.true c.in_ok-take_step.ensures)

pub loop-numbered-preserved : goal.loop-numbered-preserved
loop-numbered-preserved c =
    let done : Does c.loop-numbered.kernel c.numbered-item.result.step c.take_step.new.kernel =
    subst (λ (done : Bool). TakesStep c.loop-numbered.kernel c.numbered-item.result.step c.take_step.new.kernel done) c.if-not-branch.false c.in_ok-take_step.ensures in
    record {
      runs = goes_on c.args.tables.now c.args.obligation.now c.args.steps.now c.loop-numbered.numbered-index c.numbered-item.result c.loop-numbered.kernel c.take_step.new.kernel
          c.loop-numbered-test.true c.numbered-item.is c.loop-numbered.invariant.runs done;
      number = done_number c.loop-numbered.kernel c.take_step.new.kernel c.numbered-item.result.step done ∙ ap (λ (n : ℕ). n + 1) c.loop-numbered.invariant.number;
    }

pub returns : goal.returns
returns c = left_open c.args.tables.now c.args.obligation.now c.args.steps.now c.args.end c.loop-numbered.numbered-index c.loop-numbered.kernel (omega arith) c.loop-numbered.invariant.runs
    (λ closed. true≢false (sym (c.closed.ensures.1 closed) ∙ c.if-closed.false))
