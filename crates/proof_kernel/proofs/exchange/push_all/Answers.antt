use Rattle.std.proofs.Common.{rules, ◌<◌, ◌≤◌, length}
use Rattle.proof_kernel.specs.ExchangeSteps.{steps}
use Rattle.proof_kernel.proofs.ExchangeWalk.{all_pushed}
use Rattle.proof_kernel.proofs.exchange.push_all.Goals as goal

pub loop-i-preserved : goal.loop-i-preserved
loop-i-preserved c =
    let low : 0 < c.loop-i.i = search rules in
    let high : c.loop-i.i ≤ length c.args.terms.now = search rules in
    all_pushed c.args.depth c.args.terms.now c.loop-i.i c.index-terms-i.result (steps c.push_task.new.tasks.items) (steps c.loop-i.tasks.items) (steps c.args.tasks.now.items) low high
    c.index-terms-i.is c.in_ok-push_task.ensures c.loop-i.invariant
