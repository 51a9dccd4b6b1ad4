-- What is answered is the program of the definition, which fits.
use Rattle.type_check.proofs.Whole.{answered_fits, answered_good}
use Rattle.type_check.proofs.checking.check.Goals as goal

pub returns-clause-fits : goal.returns-clause-fits
returns-clause-fits c = answered_fits c.args.declared.now.table c.args.items.now c.passes.result c.passes.ensures

pub returns-clause-good : goal.returns-clause-good
returns-clause-good c = answered_good c.args.declared.now.table c.args.items.now c.passes.result c.passes.ensures
