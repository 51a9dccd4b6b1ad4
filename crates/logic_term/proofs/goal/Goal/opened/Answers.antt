use Rattle.std.proofs.Common.{sym, arith}
use Rattle.logic_term.proofs.GoalLaw.{opened_at}
use Rattle.logic_term.proofs.goal.Goal.opened.Goals as goal

pub returns : goal.returns
returns c =
    opened_at c.self.inside.context c.in_ok-context.context c.self.inside.formula c.in_ok-formula.formula c.in_ok-closed.closed c.args.self.now c.in_ok-formula-2.formula c.in_ok-above.above
    c.in_ok-context.ensures (sym c.self.view_is) c.in_ok-formula.ensures c.in_ok-closed.ensures c.in_ok-above.ensures (omega (arith, c.if-above-gt0.false)) c.in_ok-formula-2.ensures
