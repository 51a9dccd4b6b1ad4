use Rattle.verify_core.proofs.OneAnswer.{one_program, one_refusal, one_limit, prepared_not_refused, prepared_not_past, refused_not_past}
use Rattle.verify_core.proofs.laws.a_source_has_one_answer.Goals as goal

pub returns-clause-program : goal.returns-clause-program
returns-clause-program c = one_program

pub returns-clause-refusal : goal.returns-clause-refusal
returns-clause-refusal c = one_refusal

pub returns-clause-limit : goal.returns-clause-limit
returns-clause-limit c source one other short h g = one_limit source short one other h g

pub returns-clause-not_refused : goal.returns-clause-not_refused
returns-clause-not_refused c = prepared_not_refused

pub returns-clause-within_limits : goal.returns-clause-within_limits
returns-clause-within_limits c source p limit short h g = prepared_not_past source short p limit h g

pub returns-clause-refused_within_limits : goal.returns-clause-refused_within_limits
returns-clause-refused_within_limits c source error limit short h g = refused_not_past source short error limit h g
