use Rattle.std.proofs.Common.{◌≡◌, suc, ◌-◌, ◌<◌, drop, length, subst, sym, arith}
use Rattle.rs_types.specs.Refused.{CheckIsAsked, ChecksAreAsked}
use Rattle.rs_types.proofs.Failing.{next_check, no_checks}
use Rattle.rs_types.proofs.Growth.{nothing_added, one_more}
use Rattle.rs_types.proofs.asking.ask_checks.Goals as goal

pub loop-i-init : goal.loop-i-init
loop-i-init c = (nothing_added c.args.cases.now.items, λ e. no_checks c.args.question c.args.cases.now.items c.args.checks.now)

pub loop-i-preserved : goal.loop-i-preserved
loop-i-preserved c =
    let same : suc (c.loop-i.i - 1) ≡ c.loop-i.i = omega (arith, c.loop-i-test.true) in
    let within : c.loop-i.i - 1 < length c.args.checks.now = omega (arith, c.loop-i-test.true, c.loop-i.auto.i) in
    let asked = c.in_ok-ask_check.ensures {u = tt} in
    one_more (λ x. CheckIsAsked c.args.question x c.index-checks-i.result) c.args.cases.now.items c.loop-i.cases.items c.ask_check.new.cases.items c.loop-i.invariant.0 c.loop-i.invariant.1 asked.grows asked.asked
    (λ one rest. next_check c.args.question c.args.cases.now.items c.args.checks.now (c.loop-i.i - 1) c.index-checks-i.result c.index-checks-i.is within one
    (subst (λ n. ChecksAreAsked c.args.question c.args.cases.now.items (drop n c.args.checks.now)) (sym same) rest))
