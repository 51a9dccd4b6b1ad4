use Rattle.std.proofs.Common.{◌≡◌, take, map}
use Rattle.logic_term.specs.Term.{var}
use Rattle.proof_kernel.proofs.variant_rules.variant_term.Given as goal

abbrev pub invariant-loop-i : goal.invariant-loop-i
invariant-loop-i l = l.parts.items ≡ map var (take l.i l.names)
