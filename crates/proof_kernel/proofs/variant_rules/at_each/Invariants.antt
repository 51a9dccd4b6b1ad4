use Rattle.std.proofs.Common.{◌≡◌, ◌++◌, drop}
use Rattle.std.specs.Prelude.{zip}
use Rattle.proof_kernel.specs.VariantRules.{at_each}
use Rattle.proof_kernel.proofs.variant_rules.at_each.Given as goal

abbrev pub invariant-loop-i : goal.invariant-loop-i
invariant-loop-i l = l.all.items ++ at_each l.sort l.name l.t (zip (drop l.i l.names) (drop l.i l.sorts)) ≡ at_each l.sort l.name l.t (zip l.names l.sorts)
