use Rattle.std.proofs.Common.{◌≡◌, arith}
use Rattle.lin_arith.proofs.Steps.{outcome_first, outcome_more, outcome_all}
use Rattle.lin_arith.proofs.certificate.columns_outcome.Goals as goal

pub loop-atom-init : goal.loop-atom-init
loop-atom-init c =
    (outcome_first c.args.rows.now c.args.mult.now c.column_outcome-outcome.result c.column_outcome-outcome.ensures, omega arith)

pub loop-atom-preserved : goal.loop-atom-preserved
loop-atom-preserved c =
    let rows = c.args.rows.now in
    let mult = c.args.mult.now in
    let same : c.from-from.result ≡ c.in-Some.atom = c.from-from.ensures in
    let more = outcome_more rows mult c.loop-atom.from c.in-Some.atom c.loop-atom.outcome c.column_outcome-here.result c.in-Some.ensures c.loop-atom.invariant.0 c.column_outcome-here.ensures in
    (rw (same, c.joined-outcome.ensures) more, omega arith)

pub returns : goal.returns
returns c =
    outcome_all c.args.rows.now c.args.mult.now c.loop-atom.from c.loop-atom.outcome (c.in_default.ensures {u = tt}) c.loop-atom.invariant.0
