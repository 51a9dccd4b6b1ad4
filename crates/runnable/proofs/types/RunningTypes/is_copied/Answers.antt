use Rattle.runnable.proofs.CopyDecided.{is_copied_by}
use Rattle.runnable.proofs.types.RunningTypes.is_copied.Goals as goal

pub returns : goal.returns
returns c = rw (← c.self.view_is) (is_copied_by c.self.inside.copied c.args.ty.now c.is_copy.result c.is_copy.ensures)
