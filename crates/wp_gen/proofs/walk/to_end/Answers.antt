use Rattle.std.proofs.Common.{◌∙◌, sym, ap}
use Rattle.mir_ir.specs.Layout.{among}
use Rattle.wp_gen.specs.Setting.{setting}
use Rattle.wp_gen.proofs.WalkLaws.{again_arrives}
use Rattle.wp_gen.proofs.walk.to_end.Goals as goal

pub returns-then-among : goal.returns-then-among
returns-then-among c =
    again_arrives (setting c.args.walk.now) c.args.spot.heads.items c.args.spot.label c.args.block.now c.in-Some.head c.args.spot.reached c.in_ok-goals-in-Some.goals.items
    c.requires.block c.in-Some.is (ap (among c.args.spot.label) (sym c.as_slice.ensures.value) ∙ sym c.among.ensures ∙ c.if-among.true) c.in_ok-goals-in-Some.ensures
