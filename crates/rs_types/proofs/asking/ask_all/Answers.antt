use Rattle.std.proofs.Common.{rules, ◌≡◌, suc, ◌-◌, ◌<◌, drop, length, subst, sym, arith}
use Rattle.rs_types.specs.Weighing.{AllAsked, EachAsked, variants_at}
use Rattle.rs_types.proofs.Growth.{next_case, no_cases, nothing_added, one_more}
use Rattle.rs_types.proofs.asking.ask_all.Goals as goal

pub loop-i-init : goal.loop-i-init
loop-i-init c = (nothing_added c.args.cases.now.items, λ e. no_cases c.args.question c.args.decls.now c.args.cases.now.items c.args.of.now)

pub loop-i-preserved : goal.loop-i-preserved
loop-i-preserved c =
    let same : suc (c.loop-i.i - 1) ≡ c.loop-i.i = omega (arith, c.loop-i-test.true) in
    let within : c.loop-i.i - 1 < length c.args.of.now = omega (arith, c.loop-i-test.true, c.loop-i.auto.i) in
    let asked = c.in_ok-ask_variants.ensures {u = tt} in
    let given : c.as_slice-given.result.now ≡ c.index-of-i.result.given = search rules in
    let variants : c.variants_at-variants.result.now ≡ variants_at c.args.decls.now c.index-of-i.result.adt = search rules in
    let at_case : length c.ask_variants.new.cases.items ≡ length c.loop-i.cases.items → AllAsked c.args.question c.loop-i.cases.items c.index-of-i.result.given (variants_at c.args.decls.now c.index-of-i.result.adt) =
    λ e. subst (λ x. AllAsked c.args.question c.loop-i.cases.items x (variants_at c.args.decls.now c.index-of-i.result.adt)) given
    (subst (λ x. AllAsked c.args.question c.loop-i.cases.items c.as_slice-given.result.now x) variants (asked.asked e)) in
    one_more (λ x. AllAsked c.args.question x c.index-of-i.result.given (variants_at c.args.decls.now c.index-of-i.result.adt)) c.args.cases.now.items c.loop-i.cases.items c.ask_variants.new.cases.items
    c.loop-i.invariant.0 c.loop-i.invariant.1 asked.grows at_case
    (λ one rest. next_case c.args.question c.args.decls.now c.args.cases.now.items c.args.of.now (c.loop-i.i - 1) c.index-of-i.result c.index-of-i.is within one
    (subst (λ n. EachAsked c.args.question c.args.decls.now c.args.cases.now.items (drop n c.args.of.now)) (sym same) rest))
