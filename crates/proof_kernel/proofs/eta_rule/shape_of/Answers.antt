use Rattle.std.proofs.Common.{◌∙◌, ap, sym, length}
use Rattle.logic_term.specs.TyView.{ty_of}
use Rattle.proof_kernel.proofs.EtaSteps.{tuple_shape}
use Rattle.proof_kernel.proofs.eta_rule.shape_of.Goals as goal

pub returns-in-Tuple : goal.returns-in-Tuple
returns-in-Tuple c =
    tuple_shape c.args.adts.now c.args.sort.now c.in-Tuple.parts.items (length c.as_slice.result.now) (sym c.sort.view_is ∙ ap ty_of c.in-Tuple.is) (ap length c.as_slice.ensures.value)
