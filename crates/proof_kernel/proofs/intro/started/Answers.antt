use Rattle.std.proofs.Common.{◌≡◌, ◌≤◌, [], length, arith}
use Rattle.logic_term.specs.Context.{count_variables, IsOpened}
use Rattle.proof_kernel.proofs.Found.{found_says}
use Rattle.proof_kernel.proofs.OpenedStart.{starts_opened, starts_above}
use Rattle.proof_kernel.proofs.intro.started.Goals as goal

pub returns-then-branch-names-clause-takes : goal.returns-then-branch-names-clause-takes
returns-then-branch-names-clause-takes c =
    let found : (c.args.q.now.vars ≡ []) × (c.args.q.now.hyps ≡ []) × IsOpened c.args.q.now.goal c.in-Some.context c.in-Some.formula =
    found_says c.in_ok-context.field-0 _ (λ p. (c.args.q.now.vars ≡ []) × (c.args.q.now.hyps ≡ []) × IsOpened c.args.q.now.goal p.0 p.1) (c.in-Some.context, c.in-Some.formula) c.in-Some.is c.in_ok-context.ensures in
    let enough : count_variables c.in-Some.context ≤ length c.args.names.now = omega (arith, c.if-branch-names.true, c.in_ok-count_variables.ensures) in
    starts_opened c.args.step c.args.names.now c.args.q.now c.in-Some.context c.in-Some.formula c.start_at_formula.result found.0 found.1 found.2 enough
    c.start_at_formula.ensures.goal c.start_at_formula.ensures.q c.start_at_formula.ensures.bound c.start_at_formula.ensures.part c.start_at_formula.ensures.used

pub returns-then-branch-names-clause-above : goal.returns-then-branch-names-clause-above
returns-then-branch-names-clause-above c =
    let found : (c.args.q.now.vars ≡ []) × (c.args.q.now.hyps ≡ []) × IsOpened c.args.q.now.goal c.in-Some.context c.in-Some.formula =
    found_says c.in_ok-context.field-0 _ (λ p. (c.args.q.now.vars ≡ []) × (c.args.q.now.hyps ≡ []) × IsOpened c.args.q.now.goal p.0 p.1) (c.in-Some.context, c.in-Some.formula) c.in-Some.is c.in_ok-context.ensures in
    starts_above c.args.q.now c.in-Some.context c.in-Some.formula c.start_at_formula.result found.1 found.2 c.start_at_formula.ensures.goal
