use Rattle.runnable.proofs.OwnedFields.{fields_are_owned}
use Rattle.runnable.proofs.Valued.{owned_valued}
use Rattle.runnable.proofs.laws.owned_types_are_valued.Goals as goal

pub returns-clause-fields : goal.returns-clause-fields
returns-clause-fields c = fields_are_owned

pub returns-clause-values : goal.returns-clause-values
returns-clause-values c = owned_valued
