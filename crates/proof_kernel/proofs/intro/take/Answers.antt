use Rattle.proof_kernel.proofs.IntroLaw.{none_taken, all_taken, premise_leads, premise_taken}
use Rattle.proof_kernel.proofs.intro.take.Goals as goal
use Rattle.std.proofs.Common.{arith}

pub returns-then-used-names-2 : goal.returns-then-used-names-2
returns-then-used-names-2 c = none_taken c.args.step c.args.names.now c.args.q.now c.loop-leads.used c.loop-leads.left.part c.loop-leads.left.bound.items c.loop-leads.goal.now c.loop-leads.left.q c.loop-leads.leads
    (record { 0 = 0 }) c.loop-leads.invariant c.loop-leads-test.false c.if-used-names-2.true

pub returns : goal.returns
returns c = all_taken c.args.step c.args.names.now c.args.q.now c.loop-leads.used c.loop-leads.left.part c.loop-leads.left.bound.items c.loop-leads.goal.now c.loop-leads.left.q c.in_ok-q.q c.loop-leads.leads
    c.loop-leads.invariant c.loop-leads-test.false (omega (arith, c.if-used-names-2.false)) c.in_ok-q.ensures

pub loop-leads-preserved-in-Implies-1 : goal.loop-leads-preserved-in-Implies-1
loop-leads-preserved-in-Implies-1 c =
    premise_taken c.args.step c.args.names.now c.args.q.now c.loop-leads.used c.loop-leads.left.part c.in_ok-left-in-Binary-Implies-default-default.left.part
    c.loop-leads.left.bound.items c.in_ok-left-in-Binary-Implies-default-default.left.bound.items c.loop-leads.goal.now c.in-Binary-Implies-default-default.premise.now c.in-Binary-Implies-default-default.rest.now
    c.loop-leads.left.q c.in_ok-left-in-Binary-Implies-default-default.left.q c.loop-leads.leads c.loop-leads.leads c.loop-leads.invariant
    (premise_leads c.in-Binary-Implies-default-default.field-0 c.loop-leads.goal.now c.in-Binary-Implies-default-default.premise.now c.in-Binary-Implies-default-default.rest.now c.in-Binary-Implies-default-default.field-0-is c.in-Binary-Implies-default-default.ensures)
    c.in_ok-left-in-Binary-Implies-default-default.ensures.q c.in_ok-left-in-Binary-Implies-default-default.ensures.bound c.in_ok-left-in-Binary-Implies-default-default.ensures.part c.loop-leads-test.true
