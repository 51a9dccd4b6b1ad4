use Rattle.std.proofs.Common.{◌≡◌, take, map}
use Rattle.logic_term.specs.TyView.{tys_of}
use Rattle.proof_kernel.specs.VariantRules.{field_sort}
use Rattle.proof_kernel.proofs.variant_rules.field_sorts.Given as goal

abbrev pub invariant-loop-i : goal.invariant-loop-i
invariant-loop-i l = l.sorts.items ≡ map (field_sort (tys_of l.arguments)) (take l.i l.fields)
