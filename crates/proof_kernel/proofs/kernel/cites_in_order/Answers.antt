use Rattle.std.proofs.Common.{◌∙◌}
use Rattle.proof_kernel.proofs.Labels.{multiples_above}
use Rattle.proof_kernel.proofs.kernel.cites_in_order.Goals as goal

pub returns-in-Lin : goal.returns-in-Lin
returns-in-Lin c =
    c.are_in_order.ensures ∙ multiples_above c.args.number c.as_slice.result.now c.in-Lin.multiples c.args.step.now c.as_slice.ensures c.in-Lin.is
