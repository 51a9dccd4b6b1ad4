use Rattle.proof_kernel.specs.Setting.{setting}
use Rattle.proof_kernel.proofs.KernelLaw.{split_given}
use Rattle.proof_kernel.proofs.kernel.by_split.Goals as goal

pub returns-in-Some : goal.returns-in-Some
returns-in-Some c =
    let found = rw c.in-Some.is at c.in_ok-split.ensures in
    split_given (setting c.args.scope.now) c.args.number c.args.q.now c.in-Some.premises.items found.0 found.1
