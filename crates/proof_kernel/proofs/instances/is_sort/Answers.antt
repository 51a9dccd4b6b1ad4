use Rattle.logic_elab.proofs.SameSorts.{same_ty_is}
use Rattle.proof_kernel.proofs.instances.is_sort.Goals as goal

pub returns : goal.returns
returns c = same_ty_is c.args.s.now c.args.t.now c.same.result c.same.ensures
