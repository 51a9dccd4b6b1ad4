use Rattle.std.proofs.Common.{refl}
use Rattle.wp_gen.specs.Setting.{setting}
use Rattle.wp_gen.proofs.WalkLaws.{block_walks}
use Rattle.wp_gen.proofs.walk.through.Goals as goal

pub returns : goal.returns
returns c = record {
  is_label = refl;
  may = c.requires;
  walks = λ all h. block_walks (setting c.args.walk.now) c.args.heads.items c.args.label c.args.block.now _ c.args.reached c.in_ok-reached.reached all
      c.requires.is_block c.as_slice.ensures c.in_ok-reached.ensures h;
}
