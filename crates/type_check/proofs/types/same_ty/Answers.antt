use Rattle.logic_elab.proofs.SameSorts.{same_ty_is}
use Rattle.type_check.proofs.types.same_ty.Goals as goal

pub returns : goal.returns
returns c = same_ty_is c.args.t.now c.args.u.now c.same.result c.same.ensures
