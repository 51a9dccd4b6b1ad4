use Rattle.std.proofs.Common.{List, subst}
use Rattle.logic_term.specs.declared.declaration.AdtDecl.{AdtDecl}
use Rattle.source_trees.specs.Pterm.{Pterm}
use Rattle.proof_kernel.specs.Instances.{instance_rule}
use Rattle.proof_kernel.specs.Rules.{Finds}
use Rattle.proof_kernel.specs.Setting.{setting}
use Rattle.proof_kernel.proofs.KernelLaw.{instance_given, no_instance}
use Rattle.proof_kernel.proofs.kernel.by_instance.Goals as goal

pub returns-in-Some : goal.returns-in-Some
returns-in-Some c =
    let by_adts = subst (λ (ds : List AdtDecl). Finds (instance_rule ds c.args.number c.args.q.now c.args.label c.as_slice.result.now) c.in_ok-instance_rule.field-0) c.as_slice-adts.ensures c.in_ok-instance_rule.ensures in
    let found = subst (λ (ts : List Pterm). Finds (instance_rule c.args.scope.now.tables.now.adts c.args.number c.args.q.now c.args.label ts) c.in_ok-instance_rule.field-0) c.as_slice.ensures by_adts in
    instance_given (setting c.args.scope.now) c.args.number c.args.q.now c.in_ok-instance_rule.field-0 c.args.label c.args.ts.now c.in-Some.premises c.in-Some.is found

pub returns-in-None : goal.returns-in-None
returns-in-None c =
    let by_adts = subst (λ (ds : List AdtDecl). Finds (instance_rule ds c.args.number c.args.q.now c.args.label c.as_slice.result.now) c.in_ok-instance_rule.field-0) c.as_slice-adts.ensures c.in_ok-instance_rule.ensures in
    let found = subst (λ (ts : List Pterm). Finds (instance_rule c.args.scope.now.tables.now.adts c.args.number c.args.q.now c.args.label ts) c.in_ok-instance_rule.field-0) c.as_slice.ensures by_adts in
    (no_instance (setting c.args.scope.now) c.args.number c.args.q.now c.in_ok-instance_rule.field-0 c.args.label c.args.ts.now c.in-None.is found, λ n. n)
