use Rattle.std.proofs.Common.{length, refl, arith}
use Rattle.verify_core.proofs.JudgeLaws.{none_judged, one_more_judged, all_judged}
use Rattle.verify_core.proofs.judge.judge.Goals as goal

pub loop-owed-init : goal.loop-owed-init
loop-owed-init c = none_judged c.args.tables.now c.args.proofs.now c.args.bodies.now _ c.new.ensures.items refl c.in_ok-all_set.ensures

pub loop-owed-preserved : goal.loop-owed-preserved
loop-owed-preserved c =
    one_more_judged c.args.tables.now c.args.proofs.now c.args.obligations.now (length c.args.bodies.now) c.loop-owed.owed-index c.owed-item.result c.in_ok-reason.reason c.loop-owed.judged c.settle.new.judged
    c.loop-owed-test.true c.owed-item.is c.loop-owed.invariant c.in_ok-reason.ensures c.in_ok-settle.ensures

pub returns : goal.returns
returns c = all_judged c.args.tables.now c.args.proofs.now c.args.obligations.now (length c.args.bodies.now) c.loop-owed.owed-index c.loop-owed.judged (omega arith) c.loop-owed.invariant
