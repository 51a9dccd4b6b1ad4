use Rattle.std.proofs.Common.{rules, ◌≡◌, ◌&&◌, ◌<◌, ◌≤◌, nat_lt, false, [], None, Some, get_or, length, subst, sym, arith}
use Rattle.rs_types.proofs.Bounds.{any_default}
use Rattle.rs_types.specs.Refused.{refused_by}
use Rattle.rs_types.specs.Weighing.{known}
use Rattle.rs_types.proofs.Refusals.{all_good, one_more_good, refused_here}
use Rattle.rs_types.proofs.closing.first_refusal.Goals as goal

pub loop-d-preserved : goal.loop-d-preserved
loop-d-preserved c =
    let known_bounded = get_or c.in_ok-bounded_types.bounded_types.items c.loop-d.d false in
    let below : c.loop-d.d < length c.in_ok-bounded_types.bounded_types.items = subst (λ n. c.loop-d.d < n) (sym c.in_ok-bounded_types.ensures.len) c.loop-d-test.true in
    let good : c.is_good-good.result ≡ (known_bounded && nat_lt 0 (known c.loop-d.d [] c.in_ok-valued.valued.items)) = search rules in
    let none : refused_by c.in_ok-nested.nested.items c.is_good-good.result c.index-decls-d.result ≡ None = search rules in
    one_more_good c.args.decls.now c.in_ok-nested.nested.items c.in_ok-valued.valued.items c.in_ok-nested.ensures c.in_ok-valued.ensures c.in_ok-bounded_types.bounded_types.items
    c.in_ok-bounded_types.ensures.len c.in_ok-bounded_types.ensures.bounded c.in_ok-bounded_types.ensures.endless
    c.loop-d.d c.index-decls-d.result c.index-decls-d.is c.loop-d-test.true known_bounded (any_default c.in_ok-bounded_types.bounded_types.items c.loop-d.d false known_bounded below) c.is_good-good.result good none c.loop-d.invariant

pub returns-in-Some : goal.returns-in-Some
returns-in-Some c =
    let known_bounded = get_or c.in_ok-bounded_types.bounded_types.items c.loop-d.d false in
    let below : c.loop-d.d < length c.in_ok-bounded_types.bounded_types.items = subst (λ n. c.loop-d.d < n) (sym c.in_ok-bounded_types.ensures.len) c.loop-d-test.true in
    let good : c.is_good-good.result ≡ (known_bounded && nat_lt 0 (known c.loop-d.d [] c.in_ok-valued.valued.items)) = search rules in
    let is : refused_by c.in_ok-nested.nested.items c.is_good-good.result c.index-decls-d.result ≡ Some c.in-Some.error = search rules in
    refused_here c.args.decls.now c.in_ok-nested.nested.items c.in_ok-valued.valued.items c.in_ok-nested.ensures c.in_ok-valued.ensures c.in_ok-bounded_types.bounded_types.items
    c.in_ok-bounded_types.ensures.len c.in_ok-bounded_types.ensures.bounded c.in_ok-bounded_types.ensures.endless
    c.loop-d.d c.index-decls-d.result c.index-decls-d.is c.loop-d-test.true known_bounded (any_default c.in_ok-bounded_types.bounded_types.items c.loop-d.d false known_bounded below) c.is_good-good.result good c.in-Some.error is c.loop-d.invariant

pub returns : goal.returns
returns c =
    let past : length c.args.decls.now ≤ c.loop-d.d = grind (arith, c.loop-d-test.false) in
    all_good c.args.decls.now c.loop-d.d past c.loop-d.invariant
