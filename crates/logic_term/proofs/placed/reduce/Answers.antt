use Rattle.logic_term.proofs.CanonicalLaw.{if_normal_form}
use Rattle.logic_term.proofs.placed.reduce.Goals as goal

pub returns-clause-values : goal.returns-clause-values
returns-clause-values c = if_normal_form _ c.args.t.now c.normal_form.ensures
