use Rattle.std.proofs.Common.{rules, ◌≡◌, ◌<◌, ◌||◌, not, false, get_or, length, subst, sym}
use Rattle.rs_types.specs.Growing.{outside}
use Rattle.rs_types.specs.Holding.{in_some_variant, none}
use Rattle.rs_types.proofs.Bounds.{any_default, one_bounded_more}
use Rattle.rs_types.proofs.bounded.bounded_round.Goals as goal

pub loop-i-preserved : goal.loop-i-preserved
loop-i-preserved c =
    let known = get_or c.args.set.now c.loop-i.i false in
    let below : c.loop-i.i < length c.args.set.now = subst (λ n. c.loop-i.i < n) (sym c.requires) c.loop-i-test.true in
    let is : c.is_bounded.result ≡ (known || not (in_some_variant c.args.rows.now none (outside c.args.set.now) c.index-decls-i.result.variants)) = search rules in
    one_bounded_more c.args.rows.now c.args.set.now c.args.decls.now c.args.set.now c.loop-i.i c.index-decls-i.result known c.is_bounded.result
    c.loop-i.new.items c.push.new.self.items _ c.index-decls-i.is (any_default c.args.set.now c.loop-i.i false known below) c.loop-i-test.true
    below is (c.in_ok-push.ensures {u = tt}).items c.loop-i.invariant
