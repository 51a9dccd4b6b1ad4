use Rattle.std.proofs.Common.{◌≡◌, drop}
use Rattle.declared_types.specs.Declaring.{parameters_refusal, refusal_among}
use Rattle.declared_types.proofs.double.parameters_refusal.Given as goal

abbrev pub invariant-loop-param : goal.invariant-loop-param
invariant-loop-param l = parameters_refusal l.params ≡ refusal_among l.all.items l.lifetimes.items l.parameters.items (drop l.param-index l.params)
