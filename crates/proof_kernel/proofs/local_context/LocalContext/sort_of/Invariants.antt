use Rattle.std.proofs.Common.{◌≡◌}
use Rattle.std.specs.Option.{option_copied}
use Rattle.proof_kernel.specs.LocalContext.{variables_in}
use Rattle.proof_kernel.specs.Rules.{sort_of}
use Rattle.proof_kernel.proofs.LocalLaw.{or_else}
use Rattle.proof_kernel.proofs.local_context.LocalContext.sort_of.Given as goal

abbrev pub invariant-loop-entry : goal.invariant-loop-entry
invariant-loop-entry l = sort_of l.name (variables_in l.self) ≡ or_else (sort_of l.name (variables_in l.here)) (option_copied l.found)
