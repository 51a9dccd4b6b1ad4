use Rattle.wp_gen.specs.Setting.{setting}
use Rattle.verify_core.proofs.PassLaws.{walk_at, adds_owed}
use Rattle.verify_core.proofs.preparing.with_function.Goals as goal

pub counted_obligations-requires : goal.counted_obligations-requires
counted_obligations-requires c = walk_at c.args.lowered.now c.args.place (setting c.walk_of-walk.result) (c.requires.walk.walk c.args.place) c.walk_of-walk.ensures

pub returns : goal.returns
returns c =
    adds_owed c.args.lowered.now c.args.place (setting c.walk_of-walk.result) c.in_ok-obligations.obligations.items c.args.first.items c.in_ok-with_owing.field-0.items
    c.requires.walk c.walk_of-walk.ensures c.in_ok-obligations.ensures c.in_ok-with_owing.ensures
