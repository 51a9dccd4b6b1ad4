use Rattle.std.proofs.Common.{rules, ◌≡◌, suc, ◌-◌, ◌<◌, drop, length, map, subst, sym, arith}
use Rattle.logic_term.specs.Theory.{field_ty}
use Rattle.logic_term.specs.TyView.{tys_of}
use Rattle.rs_types.specs.Weighing.{AllAsked, AreAsked, field_types}
use Rattle.rs_types.proofs.Growth.{next_variant, no_variants, nothing_added, one_more}
use Rattle.rs_types.proofs.asking.ask_variants.Goals as goal

pub loop-i-init : goal.loop-i-init
loop-i-init c = (nothing_added c.args.cases.now.items, λ e. no_variants c.args.question c.args.cases.now.items c.args.given.now c.args.variants.now)

pub loop-i-preserved : goal.loop-i-preserved
loop-i-preserved c =
    let same : suc (c.loop-i.i - 1) ≡ c.loop-i.i = omega (arith, c.loop-i-test.true) in
    let within : c.loop-i.i - 1 < length c.args.variants.now = omega (arith, c.loop-i-test.true, c.loop-i.auto.i) in
    let asked = c.in_ok-ask_fields.ensures {u = tt} in
    let fields : c.as_slice-fields.result.now ≡ c.index-variants-i.result.fields = search rules in
    let at_variant : length c.ask_fields.new.cases.items ≡ length c.loop-i.cases.items → AreAsked c.args.question c.loop-i.cases.items c.args.given.now (field_types c.index-variants-i.result) =
    λ e. subst (λ x. AreAsked c.args.question c.loop-i.cases.items c.args.given.now (tys_of (map field_ty x))) fields (asked.asked e) in
    one_more (λ x. AreAsked c.args.question x c.args.given.now (field_types c.index-variants-i.result)) c.args.cases.now.items c.loop-i.cases.items c.ask_fields.new.cases.items c.loop-i.invariant.0 c.loop-i.invariant.1 asked.grows at_variant
    (λ one rest. next_variant c.args.question c.args.cases.now.items c.args.given.now c.args.variants.now (c.loop-i.i - 1) c.index-variants-i.result c.index-variants-i.is within one
    (subst (λ n. AllAsked c.args.question c.args.cases.now.items c.args.given.now (drop n c.args.variants.now)) (sym same) rest))
