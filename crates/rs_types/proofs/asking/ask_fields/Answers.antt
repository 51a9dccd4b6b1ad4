use Rattle.std.proofs.Common.{◌≡◌, suc, ◌-◌, ◌<◌, drop, length, map, subst, sym, arith}
use Rattle.logic_term.specs.Theory.{field_ty}
use Rattle.logic_term.specs.TyView.{tys_of}
use Rattle.rs_types.specs.Weighing.{AreAsked, IsAsked}
use Rattle.rs_types.proofs.Growth.{next_field, no_fields, nothing_added, one_more}
use Rattle.rs_types.proofs.asking.ask_fields.Goals as goal

pub loop-i-init : goal.loop-i-init
loop-i-init c = (nothing_added c.args.cases.now.items, λ e. no_fields c.args.question c.args.cases.now.items c.args.given.now c.args.fields.now)

pub loop-i-preserved : goal.loop-i-preserved
loop-i-preserved c =
    let same : suc (c.loop-i.i - 1) ≡ c.loop-i.i = omega (arith, c.loop-i-test.true) in
    let within : c.loop-i.i - 1 < length c.args.fields.now = omega (arith, c.loop-i-test.true, c.loop-i.auto.i) in
    let asked = c.in_ok-ask.ensures {u = tt} in
    let at_field : length c.ask.new.cases.items ≡ length c.loop-i.cases.items → IsAsked c.args.question c.loop-i.cases.items c.args.given.now c.index-fields-i.result.ty =
    λ e. subst (λ x. IsAsked c.args.question c.loop-i.cases.items c.args.given.now x.ty) (sym c.index-fields-i.is) (asked.asked e) in
    one_more (λ x. IsAsked c.args.question x c.args.given.now c.index-fields-i.result.ty) c.args.cases.now.items c.loop-i.cases.items c.ask.new.cases.items c.loop-i.invariant.0 c.loop-i.invariant.1 asked.grows at_field
    (λ one rest. next_field c.args.question c.args.cases.now.items c.args.given.now c.args.fields.now (c.loop-i.i - 1) c.index-fields-i.result c.index-fields-i.is within one
    (subst (λ n. AreAsked c.args.question c.args.cases.now.items c.args.given.now (tys_of (map field_ty (drop n c.args.fields.now)))) (sym same) rest))
