use Rattle.std.proofs.Common.{length}
use Rattle.proof_kernel.proofs.OpenedStart.{sorts_fit}
use Rattle.proof_kernel.proofs.intro.with_opened.Goals as goal

pub with_variables-requires : goal.with_variables-requires
with_variables-requires c = sorts_fit c.args.context c.in_ok-sorts.sorts.items (length c.args.names.now) c.in_ok-sorts.ensures c.requires
