use Rattle.std.proofs.Common.{drop}
use Rattle.std.specs.Prelude.{◌↔◌}
use Rattle.proof_kernel.specs.VariantRules.{AllNew}
use Rattle.proof_kernel.proofs.variant_rules.are_all_new.Given as goal

abbrev pub invariant-loop-i : goal.invariant-loop-i
invariant-loop-i l = AllNew l.names l.q ↔ AllNew (drop l.i l.names) l.q
