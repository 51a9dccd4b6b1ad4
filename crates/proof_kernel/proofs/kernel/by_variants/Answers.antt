use Rattle.std.proofs.Common.{rules, List, subst}
use Rattle.std.specs.Prelude.{IsTrue}
use Rattle.text_core.specs.declared.name.Name.{Name}
use Rattle.logic_term.specs.declared.declaration.AdtDecl.{AdtDecl}
use Rattle.proof_kernel.specs.Rules.{Finds}
use Rattle.proof_kernel.specs.Setting.{setting}
use Rattle.proof_kernel.specs.VariantRules.{AllNew, variants_rule}
use Rattle.proof_kernel.proofs.KernelLaw.{variants_given}
use Rattle.proof_kernel.proofs.kernel.by_variants.Goals as goal

pub returns-in-Some : goal.returns-in-Some
returns-in-Some c =
    let holds : IsTrue c.in_ok-are_all_new.field-0 = search rules in
    let new : AllNew c.args.names.now c.args.q.now = subst (λ (ns : List (List Name)). AllNew ns c.args.q.now) c.as_slice.ensures (c.in_ok-are_all_new.ensures.0 holds) in
    let by_adts = subst (λ (ds : List AdtDecl). Finds (variants_rule ds c.args.number c.args.q.now c.args.t.now c.as_slice-2.result.now) c.in_ok-variants_rule.field-0) c.as_slice-adts.ensures c.in_ok-variants_rule.ensures in
    let found = subst (λ (ns : List (List Name)). Finds (variants_rule c.args.scope.now.tables.now.adts c.args.number c.args.q.now c.args.t.now ns) c.in_ok-variants_rule.field-0) c.as_slice-2.ensures by_adts in
    variants_given (setting c.args.scope.now) c.args.number c.args.q.now c.in_ok-variants_rule.field-0 c.args.t.now c.args.names.now c.args.names.now c.in-Some.premises (λ i. c.args.names.now) new c.in-Some.is found
