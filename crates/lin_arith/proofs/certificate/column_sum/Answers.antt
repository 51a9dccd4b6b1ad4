use Rattle.std.proofs.Common.{get_or, pos, ◌∙◌, arith, rules, SFits, to_z, of_z}
use Rattle.std.specs.Int.{w128}
use Rattle.std.proofs.lemmas.Int.{to_z-of_z}
use Rattle.lin_arith.proofs.Sums.{products_read}
use Rattle.lin_arith.proofs.Steps.{column_more, column_wide, column_all}
use Rattle.lin_arith.proofs.certificate.column_sum.Goals as goal

pub returns-in-None : goal.returns-in-None
returns-in-None c =
    let rows = c.args.rows.now in
    let mult = c.args.mult.now in
    let k = c.loop-at.at in
    let by = get_or mult k (pos 0) in
    let fits_entry : SFits w128 c.entry.result = search rules in
    let fits_by : SFits w128 by = search rules in
    let is_product = products_read c.args.column rows mult k c.index-rows-at.result (to_z w128 (of_z w128 c.entry.result)) (to_z w128 (of_z w128 by)) c.requires.same_length c.loop-at-test.true c.index-rows-at.is
    (to_z-of_z w128 c.entry.result fits_entry ∙ c.entry.ensures) (to_z-of_z w128 by fits_by) in
    (c.loop-at-test.true, c.loop-at.invariant.1, column_wide c.args.column rows mult k _ (to_z w128 c.loop-at.sum-bits) is_product c.loop-at.invariant.0 c.in-None.ensures)

pub loop-at-preserved : goal.loop-at-preserved
loop-at-preserved c =
    let rows = c.args.rows.now in
    let mult = c.args.mult.now in
    let k = c.loop-at.at in
    let by = get_or mult k (pos 0) in
    let fits_entry : SFits w128 c.entry.result = search rules in
    let fits_by : SFits w128 by = search rules in
    let fits_next : SFits w128 c.in-Some.next = search rules in
    let is_product = products_read c.args.column rows mult k c.index-rows-at.result (to_z w128 (of_z w128 c.entry.result)) (to_z w128 (of_z w128 by)) c.requires.same_length c.loop-at-test.true c.index-rows-at.is
    (to_z-of_z w128 c.entry.result fits_entry ∙ c.entry.ensures) (to_z-of_z w128 by fits_by) in
    column_more c.args.column rows mult k _ (to_z w128 c.loop-at.sum-bits) _ is_product c.loop-at.invariant.0 c.loop-at.invariant.1
    (c.in-Some.ensures.0, to_z-of_z w128 c.in-Some.next fits_next ∙ c.in-Some.ensures.1)

pub returns : goal.returns
returns c =
    let past = c.loop-at-test.false in (
      λ k l. c.loop-at.invariant.1 k (omega arith),
      c.loop-at.invariant.0 ∙ column_all c.args.column c.args.rows.now c.args.mult.now c.loop-at.at c.requires.same_length past,
    )
