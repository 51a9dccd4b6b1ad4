use Rattle.std.proofs.Common.{◌≡◌, ◌+◌, ◌*◌, ◌≤◌, List, length, take}
use Rattle.prophecy_logic.specs.declared.goal.Goal.{Goal}
use Rattle.prophecy_logic.specs.Graph.{Arrives}
use Rattle.prophecy_logic.specs.State.{Adds}
use Rattle.prophecy_logic.specs.Walkable.{MayArrive}
use Rattle.wp_gen.specs.Reached.{AreSideGoals, GoesOn, ahead, blocks_from}
use Rattle.wp_gen.specs.Setting.{setting}
use Rattle.wp_gen.proofs.walk.+walk.Given as goal

abbrev pub decreases-arrive : goal.decreases-arrive
decreases-arrive l = 4 * ahead l.walk.now.body.now.blocks l.spot.heads.items l.spot.label + 3

abbrev pub decreases-turn : goal.decreases-turn
decreases-turn l = 4 * ahead l.walk.now.body.now.blocks l.spot.heads.items l.spot.label + 2

abbrev pub decreases-from_end : goal.decreases-from_end
decreases-from_end l = 4 * blocks_from l.walk.now.body.now.blocks l.spot.label + 1

abbrev pub decreases-over_sides : goal.decreases-over_sides
decreases-over_sides l = 4 * blocks_from l.walk.now.body.now.blocks l.spot.label

abbrev pub invariant-over_sides-loop-to : goal.invariant-over_sides-loop-to
invariant-over_sides-loop-to l = record {
  number : l.variant ≡ l.to-index;
  within : l.to-index ≤ length l.labels;
  sides : (gs : List Goal) × AreSideGoals (setting l.walk) l.heads.items l.place 0 (take l.to-index l.labels) gs × Adds l.fn.spot.reached.state l.fn.spot.reached.goals.items gs l.goals.items;
}

abbrev pub invariant-arrive-path : goal.invariant-arrive-path
invariant-arrive-path l = record {
  may : MayArrive (setting l.walk) l.here.heads.items l.here.label;
  nearer : ahead l.walk.body.now.blocks l.here.heads.items l.here.label ≤ ahead l.walk.body.now.blocks l.fn.spot.heads.items l.fn.spot.label;
  walks : (all : List Goal) → GoesOn (Arrives (setting l.walk) l.here.heads.items l.here.label) l.here.reached all → GoesOn (Arrives (setting l.walk) l.fn.spot.heads.items l.fn.spot.label) l.fn.spot.reached all;
}

abbrev pub decreases-arrive-path : goal.decreases-arrive-path
decreases-arrive-path l = ahead l.walk.body.now.blocks l.here.heads.items l.here.label
