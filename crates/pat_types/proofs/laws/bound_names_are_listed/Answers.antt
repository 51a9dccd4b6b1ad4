use Rattle.std.proofs.Common.{[]}
use Rattle.logic_term.specs.declared.pattern.BindingKind.TheVariants.{Value}
use Rattle.pat_types.proofs.Alone.{names_alone}
use Rattle.pat_types.proofs.Listed.{lists}
use Rattle.pat_types.proofs.laws.bound_names_are_listed.Goals as goal

pub returns-clause-distinct : goal.returns-clause-distinct
returns-clause-distinct c = λ ds p t a h. (lists ds Value [] p t a tt h).distinct

pub returns-clause-listed : goal.returns-clause-listed
returns-clause-listed c = λ ds p t a h. (lists ds Value [] p t a tt h).binds

pub returns-clause-alone : goal.returns-clause-alone
returns-clause-alone c = λ ds p t a h. names_alone ds Value p t a h
