use Rattle.std.proofs.Common.{◌≡◌, [], drop}
use Rattle.logic_term.specs.TyView.{tys_of}
use Rattle.proof_kernel.proofs.VariantSteps.{with_others}
use Rattle.proof_kernel.specs.VariantCode.{by_of}
use Rattle.proof_kernel.specs.VariantRules.{premise_of, cases_in}
use Rattle.proof_kernel.proofs.variant_rules.all_cases.Given as goal

abbrev pub invariant-loop-i : goal.invariant-loop-i
invariant-loop-i l =
    with_others (premise_of (by_of l.through) l.step l.q l.adt) l.premises.items (cases_in (tys_of l.arguments) l.i (drop l.i l.variants) (drop l.i l.names))
    ≡ with_others (premise_of (by_of l.through) l.step l.q l.adt) [] (cases_in (tys_of l.arguments) 0 l.variants l.names)
