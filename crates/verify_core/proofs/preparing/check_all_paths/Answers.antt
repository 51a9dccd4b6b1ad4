use Rattle.std.proofs.Common.{◌≡◌, ◌<◌, ◌≤◌, refl, ap, length, get_or, arith}
use Rattle.std.proofs.lemmas.Option.{slice_get_read}
use Rattle.verify_core.proofs.PassLaws.{few_at_first, few_more, few_in_all}
use Rattle.verify_core.proofs.preparing.check_all_paths.Goals as goal

pub loop-body-init : goal.loop-body-init
loop-body-init c = few_at_first c.args.bodies.now 0 refl

pub loop-body-preserved : goal.loop-body-preserved
loop-body-preserved c =
    let bodies = c.args.bodies.now in
    let i = c.loop-body.body-index in
    let body = c.body-item.result in
    let within : i < length bodies.bodies = omega (arith, c.loop-body-test.true, ap length c.as_slice-body-items.ensures) in
    let is : body ≡ get_or bodies.bodies i body = cc in
    few_more bodies i body (slice_get_read bodies.bodies (length bodies.bodies) i body refl within is) (c.in_ok-check_paths.field-0, c.in_ok-check_paths.ensures.ok.0, c.in_ok-check_paths.ensures.ok.1) c.loop-body.invariant

pub returns-clause-ok : goal.returns-clause-ok
returns-clause-ok c =
    let past : length c.args.bodies.now.bodies ≤ c.loop-body.body-index = omega (arith, c.loop-body-test.false, ap length c.as_slice-body-items.ensures) in
    few_in_all c.args.bodies.now c.loop-body.body-index past c.loop-body.invariant
