use Rattle.std.proofs.Common.{◌∙◌, sym}
use Rattle.rs_syntax.proofs.Whole.{one_error, no_items}
use Rattle.rs_syntax.proofs.laws.a_source_has_one_refusal.Goals as goal

pub returns-clause-one : goal.returns-clause-one
returns-clause-one c old bytes one other h g = one_error old bytes one other h g

pub returns-clause-limit : goal.returns-clause-limit
returns-clause-limit c old bytes one other h g = h.is ∙ sym g.is

pub returns-clause-apart : goal.returns-clause-apart
returns-clause-apart c old bytes error limit h g = no_items old bytes g.items error g.spelled h
