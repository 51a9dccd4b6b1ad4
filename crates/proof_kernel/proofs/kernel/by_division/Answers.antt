use Rattle.std.proofs.Common.{List, subst}
use Rattle.logic_term.specs.declared.declaration.AdtDecl.{AdtDecl}
use Rattle.proof_kernel.specs.Rules.{Finds}
use Rattle.proof_kernel.specs.Setting.{setting}
use Rattle.proof_kernel.specs.TermRules.{division_rule}
use Rattle.proof_kernel.proofs.KernelLaw.{division_given, no_division}
use Rattle.proof_kernel.proofs.kernel.by_division.Goals as goal

pub returns-in-Some : goal.returns-in-Some
returns-in-Some c =
    let found = subst (λ (ds : List AdtDecl). Finds (division_rule ds c.args.number c.args.q.now c.args.t.now c.args.u.now) c.in_ok-division_rule.field-0) c.as_slice-adts.ensures c.in_ok-division_rule.ensures in
    division_given (setting c.args.scope.now) c.args.number c.args.q.now c.in_ok-division_rule.field-0 c.args.t.now c.args.u.now c.in-Some.premises c.in-Some.is found

pub returns-in-None : goal.returns-in-None
returns-in-None c =
    let found = subst (λ (ds : List AdtDecl). Finds (division_rule ds c.args.number c.args.q.now c.args.t.now c.args.u.now) c.in_ok-division_rule.field-0) c.as_slice-adts.ensures c.in_ok-division_rule.ensures in
    (no_division (setting c.args.scope.now) c.args.number c.args.q.now c.in_ok-division_rule.field-0 c.args.t.now c.args.u.now c.in-None.is found, λ n. n)
