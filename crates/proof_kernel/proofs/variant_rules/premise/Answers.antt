use Rattle.std.proofs.Common.{ap}
use Rattle.proof_kernel.specs.VariantCode.{by_of}
use Rattle.proof_kernel.proofs.VariantSteps.{analysed_is, inducted_is}
use Rattle.proof_kernel.proofs.variant_rules.premise.Goals as goal

pub returns-in-Analysis : goal.returns-in-Analysis
returns-in-Analysis c =
    analysed_is (by_of c.args.through) c.in-Analysis.t.now c.in_ok-value.value c.args.step c.args.number c.args.q.now c.args.adt c.args.names.now c.args.sorts.now c.analysed.result (ap by_of c.in-Analysis.is) c.in_ok-value.ensures
    c.analysed.ensures

pub returns-in-Induction : goal.returns-in-Induction
returns-in-Induction c =
    inducted_is (by_of c.args.through) c.in-Induction.name c.in-Induction.sort.now c.in_ok-value.value c.args.step c.args.number c.args.q.now c.args.adt c.args.names.now c.args.sorts.now c.inducted.result (ap by_of c.in-Induction.is)
    c.in_ok-value.ensures c.inducted.ensures
