use Rattle.logic_term.specs.TyView.{tys_of}
use Rattle.proof_kernel.specs.VariantCode.{by_of}
use Rattle.proof_kernel.specs.VariantRules.{premise_of}
use Rattle.proof_kernel.proofs.VariantSteps.{too_few}
use Rattle.proof_kernel.proofs.variant_rules.all_cases.Goals as goal

pub returns-then-names-variants : goal.returns-then-names-variants
returns-then-names-variants c =
    too_few (premise_of (by_of c.args.through) c.args.step c.args.q.now c.args.adt) (tys_of c.args.arguments.now) c.args.variants.now c.args.names.now c.if-names-variants.true
