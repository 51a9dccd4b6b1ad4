use Rattle.std.proofs.lemmas.Result.{IfOk-weaker}
use Rattle.prophecy_logic.proofs.ArriveLaws.{plain_block}
use Rattle.wp_gen.specs.Setting.{setting}
use Rattle.wp_gen.proofs.WalkLaws.{plain_stands}
use Rattle.wp_gen.proofs.walk.through_plain.Goals as goal

pub through-requires : goal.through-requires
through-requires c = let p = plain_block (setting c.args.walk.now) c.args.spot.heads.items c.args.spot.label c.args.block.now c.requires.here c.requires.block c.requires.no_head in p.1

pub returns : goal.returns
returns c =
    IfOk-weaker c.through.result _ _
    (λ to s. plain_stands (setting c.args.walk.now) c.args.spot.heads.items c.args.spot.label c.args.block.now c.args.spot.reached to c.requires.block c.requires.no_head s) c.through.ensures
