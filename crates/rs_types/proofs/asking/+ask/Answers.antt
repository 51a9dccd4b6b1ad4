use Rattle.std.proofs.Common.{◌≡◌, suc, ◌-◌, ◌<◌, drop, length, subst, sym, arith}
use Rattle.logic_term.specs.TyView.{tys_of}
use Rattle.rs_types.specs.Weighing.{AreAsked, IsAsked}
use Rattle.rs_types.proofs.Growth.{next_type, no_types, nothing_added, one_more}
use Rattle.rs_types.proofs.asking.+ask.Goals as goal

pub ask_each-loop-i-init : goal.ask_each-loop-i-init
ask_each-loop-i-init t c = (nothing_added c.args.cases.now.items, λ e. no_types c.args.question c.args.cases.now.items c.args.given.now c.args.types.now)

pub ask_each-loop-i-preserved : goal.ask_each-loop-i-preserved
ask_each-loop-i-preserved t c =
    let j = c.loop-i.i - 1 in
    let same : suc (c.loop-i.i - 1) ≡ c.loop-i.i = omega (arith, c.loop-i-test.true) in
    let within : c.loop-i.i - 1 < length c.args.types.now = omega (arith, c.loop-i-test.true, c.loop-i.auto.i) in
    let q = c.args.question in
    let cs = c.args.cases.now.items in
    let g = c.args.given.now in
    let asked = c.in_ok-ask.ensures {u = tt} in
    one_more (λ x. IsAsked q x g c.index-types-i.result) cs c.loop-i.cases.items c.ask.new.cases.items c.loop-i.invariant.0 c.loop-i.invariant.1 asked.grows asked.asked
    (λ one rest. next_type q cs g c.args.types.now j c.index-types-i.result c.index-types-i.is within one (subst (λ n. AreAsked q cs g (tys_of (drop n c.args.types.now))) (sym same) rest))
