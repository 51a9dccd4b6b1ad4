use Rattle.rs_syntax.proofs.Whole.{no_items, not_many}
use Rattle.rs_syntax.proofs.laws.a_text_of_items_is_not_refused.Goals as goal

pub returns-clause-error : goal.returns-clause-error
returns-clause-error c old bytes items error s h = no_items old bytes items error s h

pub returns-clause-limit : goal.returns-clause-limit
returns-clause-limit c old bytes items limit place s few h = not_many old bytes items limit place s few h
