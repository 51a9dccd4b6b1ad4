use Rattle.proof_kernel.specs.Setting.{setting}
use Rattle.proof_kernel.proofs.KernelLaw.{hyp_given}
use Rattle.proof_kernel.proofs.kernel.by_hyp.Goals as goal

pub returns-then-branch : goal.returns-then-branch
returns-then-branch c =
    hyp_given (setting c.args.scope.now) c.args.number c.args.q.now c.args.label c.new.result.items (c.in_ok-is_hypothesis.ensures.0 c.if-branch.true) c.new.ensures.items
