use Rattle.std.proofs.Common.{◌≡◌, ◌∙◌, refl, sym, ap, subst, ◌+◌, ◌-◌, true, false, arith}
use Rattle.mir_ir.specs.Layout.{among}
use Rattle.prophecy_logic.proofs.ArriveLaws.{if_names_yes}
use Rattle.wp_gen.specs.Paths.{before_last, AreTargets, CountsFirst, CountsFrom}
use Rattle.wp_gen.proofs.PathLaws.{item, item_is, item_among, each_next, each_too_many, before_are_targets, count_map, back_counts, on_counts, last_named, first_is_many, ends_counts, later_counts, next_block}
use Rattle.wp_gen.proofs.paths.+paths.Goals as goal

pub along-returns-then-among : goal.along-returns-then-among
along-returns-then-among t c =
    count_map c.args.room c.one_path.result
    (back_counts c.args.body.now c.args.from c.args.to c.args.block.now c.requires.laid_out c.requires.here c.requires.edge
    (ap (among c.args.to) (sym c.as_slice.ensures) ∙ sym c.among.ensures ∙ c.if-among.true))
    c.one_path.ensures

pub along-from_block-requires : goal.along-from_block-requires
along-from_block-requires t c =
    let n = next_block c.args.body.now c.args.from c.args.to c.args.block.now c.requires.laid_out c.requires.here c.requires.edge
    (ap (among c.args.to) (sym c.as_slice.ensures) ∙ sym c.among.ensures ∙ c.if-among.false) in
    (omega (arith, n.1, c.decreases), (c.requires.laid_out, n.0))

pub along-returns : goal.along-returns
along-returns t c =
    count_map c.args.room c.from_block.result
    (on_counts c.args.body.now c.args.from c.args.to c.args.block.now c.requires.laid_out c.requires.here c.requires.edge
    (ap (among c.args.to) (sym c.as_slice.ensures) ∙ sym c.among.ensures ∙ c.if-among.false))
    c.from_block.ensures

pub along_each-along-requires : goal.along_each-along-requires
along_each-along-requires t c = (
  omega (arith, c.decreases),
  (c.requires.laid_out, (c.requires.here, c.requires.edges (item c.args.labels.now c.loop-to.to-index) (item_among c.args.labels.now c.loop-to.to-index (item c.args.labels.now c.loop-to.to-index) c.loop-to-test.true (item_is c.args.labels.now c.loop-to.to-index c.loop-to-test.true)))),
)

pub along_each-returns-in_err-counted : goal.along_each-returns-in_err-counted
along_each-returns-in_err-counted t c =
    let left = c.args.room - c.loop-to.counted in
    let sum : c.loop-to.counted + left ≡ c.args.room = omega (arith, c.loop-to.invariant.0) in
    rw c.from_residual.ensures
    (each_too_many c.args.body.now c.args.label c.args.labels.now c.loop-to.to-index (item c.args.labels.now c.loop-to.to-index) c.args.room c.loop-to.counted left c.loop-to-test.true
    (item_is c.args.labels.now c.loop-to.to-index c.loop-to-test.true) sum c.loop-to.invariant.1 c.in_err-counted.ensures)

pub along_each-loop-to-preserved : goal.along_each-loop-to-preserved
along_each-loop-to-preserved t c = (
  omega (arith, c.in_ok-counted.ensures.0, c.loop-to.invariant.0),
  each_next c.args.body.now c.args.label c.args.labels.now c.loop-to.to-index (item c.args.labels.now c.loop-to.to-index) c.loop-to.counted c.in_ok-counted.field-0 c.loop-to-test.true (item_is c.args.labels.now c.loop-to.to-index c.loop-to-test.true) c.loop-to.invariant.1 c.in_ok-counted.ensures.1,
)

pub first_side-along_each-requires : goal.first_side-along_each-requires
first_side-along_each-requires t c =
    let kind = c.args.block.now.end.kind in
    (omega (arith, c.decreases), (c.requires.laid_out, (c.requires.here, subst (λ ls. AreTargets ls kind) (sym (c.before_last-labels.ensures ∙ ap before_last c.as_slice.ensures)) (before_are_targets kind c.in-Switch.field-0 c.in-Switch.labels c.in-Switch.is))))

pub first_side-along-requires : goal.first_side-along-requires
first_side-along-requires t c =
    (omega (arith, c.decreases), (c.requires.laid_out, (c.requires.here, if_names_yes c.args.block.now.end.kind c.in-If.field-0 c.in-If.yes c.in-If.field-2 c.in-If.is)))

pub first_side-returns-in-If : goal.first_side-returns-in-If
first_side-returns-in-If t c =
    count_map c.args.room c.along.result (λ early n counts. subst (λ kind. CountsFirst c.args.body.now c.args.label kind early n) (sym c.in-If.is) counts) c.along.ensures

pub first_side-returns-in-Goto : goal.first_side-returns-in-Goto
first_side-returns-in-Goto t c = (omega arith, subst (λ kind. CountsFirst c.args.body.now c.args.label kind false 0) (sym c.in-Goto.is) refl)

pub first_side-returns-in-Call : goal.first_side-returns-in-Call
first_side-returns-in-Call t c = (omega arith, subst (λ kind. CountsFirst c.args.body.now c.args.label kind false 0) (sym c.in-Call.is) refl)

pub first_side-returns-in-Return : goal.first_side-returns-in-Return
first_side-returns-in-Return t c = (omega arith, subst (λ kind. CountsFirst c.args.body.now c.args.label kind false 0) (sym c.in-Return.is) refl)

pub first_side-returns-in-Panic : goal.first_side-returns-in-Panic
first_side-returns-in-Panic t c = (omega arith, subst (λ kind. CountsFirst c.args.body.now c.args.label kind false 0) (sym c.in-Panic.is) refl)

pub from_block-loop-block-init : goal.from_block-loop-block-init
from_block-loop-block-init t c = record {
  few = omega arith;
  there = c.requires.there;
  nearer = omega arith;
  counts = λ early n h. let e : n ≡ 0 + n = omega arith in subst (λ x. CountsFrom c.args.body.now c.args.label early x) e h;
}

pub from_block-returns-in_err-counted : goal.from_block-returns-in_err-counted
from_block-returns-in_err-counted t c =
    let left = c.args.room - c.loop-block.counted in
    let sum : c.loop-block.counted + (left + 1) ≡ c.args.room + 1 = omega (arith, c.loop-block.invariant.few) in
    rw c.from_residual.ensures
    (subst (λ x. CountsFrom c.args.body.now c.args.label true x) sum
    (c.loop-block.invariant.counts true (left + 1) (first_is_many c.args.body.now c.loop-block.here c.in-Some.block.now left (sym c.in-Some.ensures) c.in_err-counted.ensures)))

pub from_block-returns-in_default-later : goal.from_block-returns-in_default-later
from_block-returns-in_default-later t c =
    count_map {P = λ early n. n ≡ c.loop-block.counted + c.in_ok-counted.field-0 + 1} c.args.room c.with_last.result
    (λ early n is.
    let sum : c.loop-block.counted + (c.in_ok-counted.field-0 + 1) ≡ n = omega (arith, is) in
    subst (λ x. CountsFrom c.args.body.now c.args.label early x) sum
    (c.loop-block.invariant.counts early (c.in_ok-counted.field-0 + 1)
    (ends_counts c.args.body.now c.loop-block.here c.in-Some.block.now c.in_ok-counted.field-0 c.requires.laid_out (sym c.in-Some.ensures) c.in_ok-counted.ensures.1 c.in_default-later.ensures early)))
    c.with_last.ensures

pub from_block-loop-block-smaller : goal.from_block-loop-block-smaller
from_block-loop-block-smaller t c =
    let named = last_named c.in-Some.block.now.end.kind c.in-Some-later.next c.in-Some-later.ensures.0 in
    let n = next_block c.args.body.now c.loop-block.here c.in-Some-later.next c.in-Some.block.now c.requires.laid_out (sym c.in-Some.ensures) named c.in-Some-later.ensures.1 in
    n.1

pub from_block-loop-block-preserved : goal.from_block-loop-block-preserved
from_block-loop-block-preserved t c =
    let named = last_named c.in-Some.block.now.end.kind c.in-Some-later.next c.in-Some-later.ensures.0 in
    let n = next_block c.args.body.now c.loop-block.here c.in-Some-later.next c.in-Some.block.now c.requires.laid_out (sym c.in-Some.ensures) named c.in-Some-later.ensures.1 in
    record {
      few = omega (arith, c.in_ok-counted.ensures.0, c.loop-block.invariant.few);
      there = n.0;
      nearer = omega (arith, n.1, c.loop-block.invariant.nearer);
      counts = λ early m h.
          let sum : c.loop-block.counted + (c.in_ok-counted.field-0 + m) ≡ c.loop-block.counted + c.in_ok-counted.field-0 + m = omega arith in
          subst (λ x. CountsFrom c.args.body.now c.args.label early x) sum
          (c.loop-block.invariant.counts early (c.in_ok-counted.field-0 + m)
          (later_counts c.args.body.now c.loop-block.here c.in-Some.block.now c.in-Some-later.next c.in_ok-counted.field-0 c.requires.laid_out (sym c.in-Some.ensures) c.in_ok-counted.ensures.1 c.in-Some-later.ensures early m h));
    }
