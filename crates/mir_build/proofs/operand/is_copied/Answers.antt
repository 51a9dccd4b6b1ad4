use Rattle.runnable.proofs.CopyDecided.{is_copied_by}
use Rattle.mir_build.proofs.operand.is_copied.Goals as goal

pub returns : goal.returns
returns c = is_copied_by c.args.types.now c.args.ty.now c.is_copy.result c.is_copy.ensures
