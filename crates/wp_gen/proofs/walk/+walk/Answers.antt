use Rattle.std.proofs.Common.{◌≡◌, ◌∙◌, refl, sym, ap, subst, ◌+◌, [], take, arith, rules}
use Rattle.std.proofs.lemmas.Result.{IfOk-weaker}
use Rattle.prophecy_logic.specs.Graph.{Arrives, Ends}
use Rattle.wp_gen.specs.declared.reached.Next.TheVariants.{On}
use Rattle.wp_gen.specs.Paths.{before_last, AreTargets}
use Rattle.wp_gen.specs.Reached.{AreSideGoals, IsBack, IsAtLastSide, GoesOn, ComesToEnd}
use Rattle.wp_gen.specs.Setting.{setting}
use Rattle.prophecy_logic.proofs.ArriveLaws.{goto_names, if_names_yes, if_names_no, call_names}
use Rattle.wp_gen.proofs.PathLaws.{item, item_is, take_one, taken_length, all_taken, item_among, before_are_targets}
use Rattle.wp_gen.proofs.WalkLaws.{adds_none, over_one_side, switch_goes, next_may, next_leads, goto_walks, branch_walks, call_walks, return_walks, panic_walks, turn_goes}
use Rattle.wp_gen.proofs.walk.+walk.Goals as goal

pub from_end-arrive-requires : goal.from_end-arrive-requires
from_end-arrive-requires t c =
    let n = next_may (setting c.args.walk.now) c.args.spot.heads.items c.in_ok-copied-in-If.field-0.items c.args.spot.label c.args.block.now c.in-If.yes c.requires.can c.requires.here
    (if_names_yes c.args.block.now.end.kind c.in-If.operand c.in-If.yes c.in-If.no c.in-If.is) (c.in_ok-copied-in-If.ensures ∙ c.as_slice.ensures.value) in
    (omega (arith, n.1, c.decreases), (c.requires.can, n.0))

pub over_sides-arrive-requires : goal.over_sides-arrive-requires
over_sides-arrive-requires t c =
    let named = c.requires.edges (item c.args.labels.now c.loop-to.to-index) (item_among c.args.labels.now c.loop-to.to-index (item c.args.labels.now c.loop-to.to-index) c.loop-to-test.true (item_is c.args.labels.now c.loop-to.to-index c.loop-to-test.true)) in
    let n = next_may (setting c.args.walk.now) c.args.spot.heads.items c.in_ok-copied.field-0.items c.args.spot.label c.args.block.now (item c.args.labels.now c.loop-to.to-index) c.requires.can c.requires.here named (c.in_ok-copied.ensures ∙ c.as_slice.ensures.value) in
    (omega (arith, n.1, c.decreases), (c.requires.can, n.0))

pub over_sides-loop-to-init : goal.over_sides-loop-to-init
over_sides-loop-to-init t c = record { number = refl; within = omega arith; sides = ([], refl, adds_none c.args.spot.reached.state c.args.spot.reached.goals.items) }

pub over_sides-loop-to-preserved : goal.over_sides-loop-to-preserved
over_sides-loop-to-preserved t c =
    let ls = c.args.labels.now in
    let i = c.loop-to.to-index in
    let inv = c.loop-to.invariant in
    let count = taken_length ls i (omega (arith, c.loop-to-test.true)) in
    let side = over_one_side (setting c.args.walk.now) c.args.spot.heads.items c.in_ok-copied.field-0.items c.args.place.now c.loop-to.variant (take i ls) c.args.spot.reached.state c.args.spot.reached.goals.items inv.sides.0
    c.loop-to.goals.items c.in_ok-goals.goals.items (item ls i) (record { state = c.in_ok-share.field-0; goals = c.loop-to.goals }) c.in_ok-side.side inv.sides.1 (inv.number ∙ sym count) inv.sides.2
    c.in_ok-share.ensures refl c.in_ok-side.ensures (c.in_ok-copied.ensures ∙ c.as_slice.ensures.value) c.in_ok-goals.ensures in
    let number : c.in_ok-variant.variant ≡ i + 1 = search rules in
    record {
      number = number;
      within = omega (arith, c.loop-to-test.true);
      sides = (side.0, subst (λ ms. AreSideGoals (setting c.args.walk.now) c.args.spot.heads.items c.args.place.now 0 ms side.0) (sym (take_one ls i (item ls i) c.loop-to-test.true (item_is ls i c.loop-to-test.true))) side.1, side.2);
    }

pub over_sides-returns : goal.over_sides-returns
over_sides-returns t c =
    let sides = c.loop-to.invariant.sides in (
      refl,
      refl,
      record {
        goals = sides.0;
        are = subst (λ ms. AreSideGoals (setting c.args.walk.now) c.args.spot.heads.items c.args.place.now 0 ms sides.0) (all_taken c.args.labels.now c.loop-to.to-index c.loop-to-test.false) sides.1;
        adds = sides.2;
        state = refl;
      },
    )

pub from_end-over_sides-requires : goal.from_end-over_sides-requires
from_end-over_sides-requires t c =
    let kind = c.args.block.now.end.kind in
    (omega (arith, c.decreases), (c.requires.can, (c.requires.here, subst (λ ls. AreTargets ls kind) (sym (c.before_last.ensures ∙ ap before_last c.as_slice-labels.ensures)) (before_are_targets kind c.in-Switch.place c.in-Switch.labels c.in-Switch.is))))

pub from_end-returns-in_ok-back-in-Switch : goal.from_end-returns-in_ok-back-in-Switch
from_end-returns-in_ok-back-in-Switch t c =
    let labels = c.as_slice-labels.ensures in
    let sides : IsBack (setting c.args.walk.now) c.in-Switch.place (before_last c.in-Switch.labels) c.args.spot c.in_ok-back-in-Switch.back =
    subst (λ ls. IsBack (setting c.args.walk.now) c.in-Switch.place ls c.args.spot c.in_ok-back-in-Switch.back) (c.before_last.ensures ∙ ap before_last labels) c.in_ok-back-in-Switch.ensures in
    IfOk-weaker c.to_last_side.result _ _
    (λ n h. switch_goes (setting c.args.walk.now) c.args.spot c.in_ok-back-in-Switch.back c.args.block.now c.in-Switch.place c.in-Switch.labels n c.requires.can c.requires.here c.in-Switch.is sides
    (subst (λ ls. IsAtLastSide (setting c.args.walk.now) c.in-Switch.place ls c.in_ok-back-in-Switch.back n) labels h))
    c.to_last_side.ensures

pub from_end-returns-in-Goto : goal.from_end-returns-in-Goto
from_end-returns-in-Goto t c =
    next_leads (setting c.args.walk.now) (Ends (setting c.args.walk.now) c.args.spot.heads.items c.args.block.now.end) c.args.spot.reached c.args.spot.heads.items c.args.spot.label c.args.block.now c.in-Goto.next _
    c.requires.can c.requires.here (goto_names c.args.block.now.end.kind c.in-Goto.next c.in-Goto.is) refl refl
    (λ all h. goto_walks (setting c.args.walk.now) c.args.spot.heads.items c.args.block.now.end c.in-Goto.next c.args.spot.reached all c.in-Goto.is h)

pub from_end-returns-in_ok-reached-in-If : goal.from_end-returns-in_ok-reached-in-If
from_end-returns-in_ok-reached-in-If t c =
    let same = c.in_ok-copied-in-If.ensures ∙ c.as_slice.ensures.value in
    next_leads (setting c.args.walk.now) (Ends (setting c.args.walk.now) c.args.spot.heads.items c.args.block.now.end) c.args.spot.reached c.args.spot.heads.items c.args.spot.label c.args.block.now c.in-If.no _
    c.requires.can c.requires.here (if_names_no c.args.block.now.end.kind c.in-If.operand c.in-If.yes c.in-If.no c.in-If.is) refl refl
    (λ all h. branch_walks (setting c.args.walk.now) c.args.spot.heads.items c.args.block.now.end c.in-If.operand c.in-If.yes c.in-If.no
    c.args.spot.reached c.in_ok-true_side-in-If.true_side (record { state = c.in_ok-state-in-If.state; goals = c.in_ok-goals-in-If.goals }) c.in_ok-reached-in-If.reached c.in_ok-goals-in-If.goals.items all
    c.in-If.is c.in_ok-state-in-If.ensures refl c.in_ok-true_side-in-If.ensures
    (subst (λ hs. GoesOn (Arrives (setting c.args.walk.now) hs c.in-If.yes) c.in_ok-true_side-in-If.true_side c.in_ok-goals-in-If.goals.items) same c.in_ok-goals-in-If.ensures)
    c.in_ok-reached-in-If.ensures h)

pub from_end-returns-in_ok-reached-in-Call : goal.from_end-returns-in_ok-reached-in-Call
from_end-returns-in_ok-reached-in-Call t c =
    next_leads (setting c.args.walk.now) (Ends (setting c.args.walk.now) c.args.spot.heads.items c.args.block.now.end) c.args.spot.reached c.args.spot.heads.items c.args.spot.label c.args.block.now c.in-Call.next _
    c.requires.can c.requires.here (call_names c.args.block.now.end.kind c.in-Call.place c.in-Call.callee c.in-Call.field-2 c.in-Call.args c.in-Call.next c.in-Call.is) refl refl
    (λ all h. call_walks (setting c.args.walk.now) c.args.spot.heads.items c.args.block.now.end c.in-Call.place c.in-Call.callee c.in-Call.field-2 c.in-Call.args _ c.in-Call.next
    c.args.spot.reached c.in_ok-reached-in-Call.reached all c.in-Call.is c.as_slice-args.ensures c.in_ok-reached-in-Call.ensures h)

pub from_end-returns-in_ok-goals-in-Return : goal.from_end-returns-in_ok-goals-in-Return
from_end-returns-in_ok-goals-in-Return t c =
    return_walks (setting c.args.walk.now) c.args.spot.heads.items c.args.block.now.end c.args.spot.reached c.in_ok-goals-in-Return.goals.items c.in-Return.is c.in_ok-goals-in-Return.ensures

pub from_end-returns-in_ok-goals-in-Panic : goal.from_end-returns-in_ok-goals-in-Panic
from_end-returns-in_ok-goals-in-Panic t c =
    panic_walks (setting c.args.walk.now) c.args.spot.heads.items c.args.block.now.end c.in-Panic.field-0 c.args.spot.reached c.in_ok-goals-in-Panic.goals.items c.in-Panic.is c.in_ok-goals-in-Panic.ensures

pub turn-returns-in-On : goal.turn-returns-in-On
turn-returns-in-On t c =
    let ends : ComesToEnd (setting c.args.walk.now) c.args.spot c.in-Some.block.now (On c.in-On.end) = subst (ComesToEnd (setting c.args.walk.now) c.args.spot c.in-Some.block.now) c.in-On.is c.in_ok-end.ensures in
    IfOk-weaker c.from_end.result _ _ (λ n g. turn_goes (setting c.args.walk.now) c.args.spot c.in-Some.block.now c.in-On.end n ends g) c.from_end.ensures
