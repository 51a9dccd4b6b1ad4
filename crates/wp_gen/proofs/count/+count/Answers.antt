use Rattle.std.proofs.Common.{◌∙◌, sym, ap, subst, Some, None, arith}
use Rattle.mir_ir.specs.Layout.{among}
use Rattle.wp_gen.specs.Count.{IsRoomLeft, LeavesRoomAlong, goals_within}
use Rattle.wp_gen.specs.Paths.{before_last, AreTargets, last_target}
use Rattle.wp_gen.specs.Setting.{setting}
use Rattle.prophecy_logic.proofs.ArriveLaws.{if_names_yes}
use Rattle.wp_gen.proofs.CountLaws.{back_leaves, arrival_is_full, on_leaves, block_before, statements_are_many, goto_before, branch_before, switch_before, along_none, along_next, along_too_many, along_all, call_before, return_before, panic_before, none_behind, along_behind, same_room}
use Rattle.wp_gen.proofs.PathLaws.{item, item_is, item_among, before_are_targets, last_named, next_block}
use Rattle.wp_gen.proofs.count.+count.Goals as goal

pub along-returns-in_err-left : goal.along-returns-in_err-left
along-returns-in_err-left t c =
    rw c.from_residual.ensures
    (arrival_is_full (setting c.args.walk.now) c.args.from c.args.to c.args.block.now c.args.room c.requires.can.laid_out c.requires.here c.requires.edge c.in_err-left.ensures)

pub along-returns-then-among : goal.along-returns-then-among
along-returns-then-among t c =
    back_leaves (setting c.args.walk.now) c.args.from c.args.to c.args.block.now c.args.room c.in_ok-left.left c.requires.can.laid_out c.requires.here c.requires.edge
    (ap (among c.args.to) (sym c.as_slice.ensures) ∙ sym c.among.ensures ∙ c.if-among.true) c.in_ok-left.ensures

pub along-from_block-requires : goal.along-from_block-requires
along-from_block-requires t c =
    let n = next_block c.args.walk.now.body.now c.args.from c.args.to c.args.block.now c.requires.can.laid_out c.requires.here c.requires.edge
    (ap (among c.args.to) (sym c.as_slice.ensures) ∙ sym c.among.ensures ∙ c.if-among.false) in
    (omega (arith, n.1, c.decreases), (c.requires.can, n.0))

pub along-returns : goal.along-returns
along-returns t c =
    on_leaves (setting c.args.walk.now) c.args.from c.args.to c.args.block.now c.args.room c.in_ok-left.left c.from_block.result c.requires.can.laid_out c.requires.here c.requires.edge
    (ap (among c.args.to) (sym c.as_slice.ensures) ∙ sym c.among.ensures ∙ c.if-among.false) c.in_ok-left.ensures c.from_block.ensures

pub along_each-along-requires : goal.along_each-along-requires
along_each-along-requires t c = (
  omega (arith, c.decreases),
  (c.requires.can, (c.requires.here, c.requires.edges (item c.args.labels.now c.loop-to.to-index) (item_among c.args.labels.now c.loop-to.to-index (item c.args.labels.now c.loop-to.to-index) c.loop-to-test.true (item_is c.args.labels.now c.loop-to.to-index c.loop-to-test.true)))),
)

pub along_each-loop-to-init : goal.along_each-loop-to-init
along_each-loop-to-init t c = along_none (setting c.args.walk.now) c.args.from c.args.room

pub along_each-returns-in_err-left : goal.along_each-returns-in_err-left
along_each-returns-in_err-left t c =
    rw c.from_residual.ensures
    (along_too_many (setting c.args.walk.now) c.args.from c.args.labels.now c.loop-to.to-index (item c.args.labels.now c.loop-to.to-index) c.args.room c.loop-to.left c.loop-to-test.true (item_is c.args.labels.now c.loop-to.to-index c.loop-to-test.true) c.loop-to.invariant c.in_err-left.ensures)

pub along_each-loop-to-preserved : goal.along_each-loop-to-preserved
along_each-loop-to-preserved t c =
    along_next (setting c.args.walk.now) c.args.from c.args.labels.now c.loop-to.to-index (item c.args.labels.now c.loop-to.to-index) c.args.room c.loop-to.left
    (Some c.in_ok-left.left) c.loop-to-test.true (item_is c.args.labels.now c.loop-to.to-index c.loop-to-test.true) c.loop-to.invariant c.in_ok-left.ensures

pub along_each-returns : goal.along_each-returns
along_each-returns t c = along_all (setting c.args.walk.now) c.args.from c.args.labels.now c.loop-to.to-index c.args.room (Some c.loop-to.left) c.loop-to-test.false c.loop-to.invariant

pub after_end-along_each-requires : goal.after_end-along_each-requires
after_end-along_each-requires t c =
    let kind = c.args.block.now.end.kind in
    (omega (arith, c.decreases), (c.requires.can, (c.requires.here, subst (λ ls. AreTargets ls kind) (sym (c.before_last-labels.ensures ∙ ap before_last c.as_slice.ensures)) (before_are_targets kind c.in-Switch.field-0 c.in-Switch.labels c.in-Switch.is))))

pub after_end-along-requires : goal.after_end-along-requires
after_end-along-requires t c =
    (omega (arith, c.decreases), (c.requires.can, (c.requires.here, if_names_yes c.args.block.now.end.kind c.in-If.field-0 c.in-If.yes c.in-If.field-2 c.in-If.is)))

pub after_end-returns-in-Goto : goal.after_end-returns-in-Goto
after_end-returns-in-Goto t c = goto_before (setting c.args.walk.now) c.args.label c.args.block.now c.in-Goto.field-0 c.args.room c.in-Goto.is

pub after_end-returns-in-If : goal.after_end-returns-in-If
after_end-returns-in-If t c = branch_before (setting c.args.walk.now) c.args.label c.args.block.now c.in-If.field-0 c.in-If.yes c.in-If.field-2 c.args.room c.along.result c.in-If.is c.along.ensures

pub after_end-returns-in-Call : goal.after_end-returns-in-Call
after_end-returns-in-Call t c =
    call_before (setting c.args.walk.now) c.args.label c.args.block.now c.in-Call.field-0 c.in-Call.callee c.in-Call.field-2 c.in-Call.field-3 c.in-Call.field-4 c.contract_at-contract.result.now c.args.room c.after.result c.in-Call.is
    c.contract_at-contract.ensures (same_room c.args.room _ _ c.after.result c.len.ensures c.after.ensures)

pub after_end-returns-in-Switch : goal.after_end-returns-in-Switch
after_end-returns-in-Switch t c =
    switch_before (setting c.args.walk.now) c.args.label c.args.block.now c.in-Switch.field-0 c.in-Switch.labels c.args.room c.along_each.result c.in-Switch.is
    (subst (λ ls. LeavesRoomAlong (setting c.args.walk.now) c.args.label ls c.args.room c.along_each.result) (c.before_last-labels.ensures ∙ ap before_last c.as_slice.ensures) c.along_each.ensures)

pub after_end-returns-in-Return : goal.after_end-returns-in-Return
after_end-returns-in-Return t c =
    return_before (setting c.args.walk.now) c.args.label c.args.block.now c.args.room c.after-in-Return.result c.in-Return.is
    (same_room c.args.room _ _ c.after-in-Return.result (c.count_of_return.ensures c.args.walk.now.body.now) c.after-in-Return.ensures)

pub after_end-returns-in-Panic : goal.after_end-returns-in-Panic
after_end-returns-in-Panic t c =
    panic_before (setting c.args.walk.now) c.args.label c.args.block.now c.in-Panic.field-0 c.args.room c.after-in-Panic.result c.in-Panic.is c.after-in-Panic.ensures

pub after_block-returns-in_err-left : goal.after_block-returns-in_err-left
after_block-returns-in_err-left t c =
    rw c.from_residual.ensures
    (statements_are_many (setting c.args.walk.now) c.args.label c.args.block.now c.args.room c.requires.here
    (subst (λ sts. IsRoomLeft c.args.room (goals_within c.args.walk.now.body.now sts) None) c.as_slice.ensures c.in_err-left.ensures))

pub after_block-returns : goal.after_block-returns
after_block-returns t c =
    block_before (setting c.args.walk.now) c.args.label c.args.block.now _ c.args.room c.in_ok-left.left c.after_end.result c.requires.here
    (subst (λ sts. IsRoomLeft c.args.room (goals_within c.args.walk.now.body.now sts) (Some c.in_ok-left.left)) c.as_slice.ensures c.in_ok-left.ensures)
    c.after_end.ensures

pub from_block-returns-in_default-last_target : goal.from_block-returns-in_default-last_target
from_block-returns-in_default-last_target t c =
    c.loop-block.invariant.leaves (Some c.in_ok-left.left)
    (none_behind (setting c.args.walk.now) c.loop-block.here (last_target c.in-Some.block.now.end.kind) c.loop-block.left c.in_ok-left.left (sym c.in_default-last_target.ensures) c.in_ok-left.ensures)

pub from_block-returns-in_err-left-2 : goal.from_block-returns-in_err-left-2
from_block-returns-in_err-left-2 t c =
    let named = last_named c.in-Some.block.now.end.kind c.in-Some-last_target.next (sym c.in-Some-last_target.ensures) in
    rw c.from_residual-in_err-left-2.ensures
    (c.loop-block.invariant.leaves None
    (along_behind (setting c.args.walk.now) c.loop-block.here c.in-Some-last_target.next (last_target c.in-Some.block.now.end.kind) c.loop-block.left c.in_ok-left.left None (sym c.in-Some-last_target.ensures) c.in_ok-left.ensures
    (arrival_is_full (setting c.args.walk.now) c.loop-block.here c.in-Some-last_target.next c.in-Some.block.now c.in_ok-left.left c.requires.can.laid_out (sym c.in-Some.ensures) named c.in_err-left-2.ensures)))

pub from_block-returns-then-among : goal.from_block-returns-then-among
from_block-returns-then-among t c =
    let named = last_named c.in-Some.block.now.end.kind c.in-Some-last_target.next (sym c.in-Some-last_target.ensures) in
    c.loop-block.invariant.leaves (Some c.in_ok-left-2.left)
    (along_behind (setting c.args.walk.now) c.loop-block.here c.in-Some-last_target.next (last_target c.in-Some.block.now.end.kind) c.loop-block.left c.in_ok-left.left (Some c.in_ok-left-2.left) (sym c.in-Some-last_target.ensures)
    c.in_ok-left.ensures
    (back_leaves (setting c.args.walk.now) c.loop-block.here c.in-Some-last_target.next c.in-Some.block.now c.in_ok-left.left c.in_ok-left-2.left c.requires.can.laid_out (sym c.in-Some.ensures) named
    (ap (among c.in-Some-last_target.next) (sym c.as_slice.ensures) ∙ sym c.among.ensures ∙ c.if-among.true) c.in_ok-left-2.ensures))

pub from_block-loop-block-smaller : goal.from_block-loop-block-smaller
from_block-loop-block-smaller t c =
    let named = last_named c.in-Some.block.now.end.kind c.in-Some-last_target.next (sym c.in-Some-last_target.ensures) in
    let n = next_block c.args.walk.now.body.now c.loop-block.here c.in-Some-last_target.next c.in-Some.block.now c.requires.can.laid_out (sym c.in-Some.ensures) named
    (ap (among c.in-Some-last_target.next) (sym c.as_slice.ensures) ∙ sym c.among.ensures ∙ c.if-among.false) in
    n.1

pub from_block-loop-block-preserved : goal.from_block-loop-block-preserved
from_block-loop-block-preserved t c =
    let named = last_named c.in-Some.block.now.end.kind c.in-Some-last_target.next (sym c.in-Some-last_target.ensures) in
    let not_in = ap (among c.in-Some-last_target.next) (sym c.as_slice.ensures) ∙ sym c.among.ensures ∙ c.if-among.false in
    let n = next_block c.args.walk.now.body.now c.loop-block.here c.in-Some-last_target.next c.in-Some.block.now c.requires.can.laid_out (sym c.in-Some.ensures) named not_in in
    record {
      there = n.0;
      nearer = omega (arith, n.1, c.loop-block.invariant.nearer);
      leaves = λ r h.
          c.loop-block.invariant.leaves r
          (along_behind (setting c.args.walk.now) c.loop-block.here c.in-Some-last_target.next (last_target c.in-Some.block.now.end.kind) c.loop-block.left c.in_ok-left.left r (sym c.in-Some-last_target.ensures) c.in_ok-left.ensures
          (on_leaves (setting c.args.walk.now) c.loop-block.here c.in-Some-last_target.next c.in-Some.block.now c.in_ok-left.left c.in_ok-left-2.left r c.requires.can.laid_out (sym c.in-Some.ensures) named not_in c.in_ok-left-2.ensures h));
    }
