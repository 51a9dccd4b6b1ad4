use Rattle.std.proofs.Common.{[]}
use Rattle.logic_term.specs.declared.pattern.BindingKind.TheVariants.{Value}
use Rattle.pat_types.proofs.Fitting.{fits}
use Rattle.pat_types.proofs.laws.typed_patterns_fit.Goals as goal

pub returns : goal.returns
returns c = λ ds p t a h. fits ds Value [] p t a h
