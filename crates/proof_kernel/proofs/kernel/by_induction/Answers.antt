use Rattle.std.proofs.Common.{◌≡◌, false, List, subst}
use Rattle.text_core.specs.declared.name.Name.{Name}
use Rattle.logic_term.specs.declared.declaration.AdtDecl.{AdtDecl}
use Rattle.proof_kernel.specs.Rules.{Finds, free_in_hyps}
use Rattle.proof_kernel.specs.Setting.{setting}
use Rattle.proof_kernel.specs.VariantRules.{AllNew, induction_rule}
use Rattle.proof_kernel.proofs.KernelLaw.{induction_given}
use Rattle.proof_kernel.proofs.kernel.by_induction.Goals as goal

pub returns-in-Some : goal.returns-in-Some
returns-in-Some c =
    let free = subst (λ (ns : List (List Name)). AllNew ns c.args.q.now × (free_in_hyps c.args.name c.args.q.now.hyps ≡ false)) c.as_slice.ensures (c.in_ok-is_hindered.ensures.0 c.if-branch.false) in
    let by_adts = subst (λ (ds : List AdtDecl). Finds (induction_rule ds c.args.number c.args.q.now c.args.name c.as_slice-2.result.now) c.in_ok-induction_rule.field-0) c.as_slice-adts.ensures c.in_ok-induction_rule.ensures in
    let found = subst (λ (ns : List (List Name)). Finds (induction_rule c.args.scope.now.tables.now.adts c.args.number c.args.q.now c.args.name ns) c.in_ok-induction_rule.field-0) c.as_slice-2.ensures by_adts in
    induction_given (setting c.args.scope.now) c.args.number c.args.q.now c.in_ok-induction_rule.field-0 c.args.name c.args.names.now c.args.names.now c.in-Some.premises (λ i. c.args.names.now) free c.in-Some.is found
