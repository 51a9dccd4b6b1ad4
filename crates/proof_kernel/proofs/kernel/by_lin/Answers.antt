use Rattle.proof_kernel.specs.Setting.{setting}
use Rattle.proof_kernel.proofs.KernelLaw.{lin_given}
use Rattle.proof_kernel.proofs.kernel.by_lin.Goals as goal

pub returns-in-Closes : goal.returns-in-Closes
returns-in-Closes c =
    lin_given (setting c.args.scope.now) c.args.number c.args.q.now c.as_slice.result.now c.args.multiples.now c.new.result.items c.as_slice.ensures (c.in_ok-certifies.ensures.closes.0 c.in-Closes.is) c.new.ensures.items
