use Rattle.std.proofs.Common.{refl, arith}
use Rattle.wp_gen.specs.Setting.{setting}
use Rattle.verify_core.proofs.PassLaws.{walk_at, all_room, room_before_next, too_many, few_goals}
use Rattle.verify_core.proofs.preparing.check_obligations.Goals as goal

pub loop-place-init : goal.loop-place-init
loop-place-init c = all_room c.args.lowered.now

pub room_after-requires : goal.room_after-requires
room_after-requires c = walk_at c.args.lowered.now c.loop-place.place (setting c.walk_of-walk.result) (c.requires.walk c.loop-place.place) c.walk_of-walk.ensures

pub loop-place-preserved : goal.loop-place-preserved
loop-place-preserved c =
    room_before_next c.args.lowered.now c.loop-place.place (setting c.walk_of-walk.result) c.loop-place.left c.in-Some.rest c.walk_of-walk.ensures c.loop-place.invariant c.in-Some.ensures

pub returns-in_default-clause-err : goal.returns-in_default-clause-err
returns-in_default-clause-err c = (
  too_many c.args.lowered.now c.loop-place.place (setting c.walk_of-walk.result) c.loop-place.left c.requires (omega (arith, c.loop-place-test.true)) c.walk_of-walk.ensures c.loop-place.invariant c.in_default.ensures,
  refl,
)

pub returns-clause-ok : goal.returns-clause-ok
returns-clause-ok c = few_goals c.args.lowered.now c.loop-place.place c.loop-place.left (omega (arith, c.loop-place-test.false)) (omega arith) c.loop-place.invariant
