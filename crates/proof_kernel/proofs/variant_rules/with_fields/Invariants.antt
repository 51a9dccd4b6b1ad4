use Rattle.std.proofs.Common.{◌≡◌, drop}
use Rattle.std.specs.Prelude.{zip}
use Rattle.proof_kernel.specs.VariantRules.{with_variables}
use Rattle.proof_kernel.proofs.variant_rules.with_fields.Given as goal

abbrev pub invariant-loop-i : goal.invariant-loop-i
invariant-loop-i l = with_variables l.all (zip (drop l.i l.names) (drop l.i l.sorts)) ≡ with_variables l.fn.q (zip l.names l.sorts)
