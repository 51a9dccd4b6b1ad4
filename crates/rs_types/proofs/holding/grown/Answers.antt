use Rattle.std.proofs.Common.{rules, ◌≡◌, ◌<◌, ◌≤◌, length, subst, arith}
use Rattle.rs_types.specs.Growing.{row_grown}
use Rattle.rs_types.proofs.Grow.{all_rows, one_row_more, same_length}
use Rattle.rs_types.proofs.holding.grown.Goals as goal

pub loop-i-preserved : goal.loop-i-preserved
loop-i-preserved c =
    let grown : c.in_ok-grown_row.field-0 ≡ row_grown c.args.rows.now c.index-decls-i.result.variants 0 c.index-rows-i.result = search rules in
    one_row_more c.args.rows.now c.args.decls.now c.args.rows.now c.loop-i.i c.index-decls-i.result c.index-rows-i.result c.in_ok-grown_row.field-0
    c.loop-i.new.items c.push.new.self.items _ c.index-decls-i.is c.index-rows-i.is c.loop-i-test.true
    (subst (λ n. c.loop-i.i < n) (same_length c.args.decls.now c.args.rows.now c.requires) c.loop-i-test.true) grown (c.in_ok-push.ensures {u = tt}).items c.loop-i.invariant

pub returns : goal.returns
returns c =
    let past : length c.args.decls.now ≤ c.loop-i.i = grind (arith, c.loop-i-test.false) in
    all_rows c.args.rows.now c.args.decls.now c.args.rows.now c.loop-i.i c.loop-i.new.items _ c.requires past c.loop-i.invariant
