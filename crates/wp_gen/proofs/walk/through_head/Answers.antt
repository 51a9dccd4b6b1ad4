use Rattle.std.proofs.lemmas.Result.{IfOk-weaker}
use Rattle.wp_gen.specs.Setting.{setting}
use Rattle.wp_gen.proofs.WalkLaws.{may_walk_head, head_stands}
use Rattle.wp_gen.proofs.walk.through_head.Goals as goal

pub through-requires : goal.through-requires
through-requires c =
    may_walk_head (setting c.args.walk.now) c.args.spot.heads.items c.in_ok-passed.passed.items c.args.spot.label c.args.block.now c.args.head.now c.requires.here c.requires.block c.requires.head c.requires.not_passed
    c.in_ok-passed.ensures

pub returns : goal.returns
returns c =
    IfOk-weaker c.through.result _ _
    (λ to s. head_stands (setting c.args.walk.now) c.args.spot.heads.items c.in_ok-passed.passed.items c.args.spot.label c.args.block.now c.args.head.now c.args.spot.reached c.in_ok-inside.inside to
    c.requires.block c.requires.head c.requires.not_passed c.in_ok-passed.ensures c.in_ok-inside.ensures s)
    c.through.ensures
