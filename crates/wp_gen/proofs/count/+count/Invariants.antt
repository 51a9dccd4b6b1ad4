use Rattle.std.proofs.Common.{◌≡◌, ℕ, ◌+◌, ◌*◌, ◌≤◌, Option, Some, take}
use Rattle.mir_ir.specs.declared.body.Block.{Block}
use Rattle.mir_ir.specs.Body.{block_in}
use Rattle.wp_gen.specs.Count.{LeavesRoomBehind, LeavesRoomAlong, IsFrom}
use Rattle.wp_gen.specs.Setting.{setting}
use Rattle.prophecy_logic.proofs.ArriveLaws.{room}
use Rattle.wp_gen.proofs.count.+count.Given as goal

abbrev pub decreases-along : goal.decreases-along
decreases-along l = 5 * room l.walk.now.body.now.blocks l.from

abbrev pub decreases-along_each : goal.decreases-along_each
decreases-along_each l = 5 * room l.walk.now.body.now.blocks l.from + 1

abbrev pub invariant-along_each-loop-to : goal.invariant-along_each-loop-to
invariant-along_each-loop-to l = LeavesRoomAlong (setting l.walk) l.from (take l.to-index l.labels) l.room (Some l.left)

abbrev pub decreases-after_end : goal.decreases-after_end
decreases-after_end l = 5 * room l.walk.now.body.now.blocks l.label + 2

abbrev pub decreases-after_block : goal.decreases-after_block
decreases-after_block l = 5 * room l.walk.now.body.now.blocks l.label + 3

abbrev pub decreases-from_block : goal.decreases-from_block
decreases-from_block l = 5 * room l.walk.now.body.now.blocks l.label + 4

abbrev pub invariant-from_block-loop-block : goal.invariant-from_block-loop-block
invariant-from_block-loop-block l = record {
  there : (k : Block) × (block_in l.walk.body.now.blocks l.here ≡ Some k);
  nearer : room l.walk.body.now.blocks l.here ≤ room l.walk.body.now.blocks l.fn.label;
  leaves : (r : Option ℕ) → LeavesRoomBehind (IsFrom (setting l.walk) l.here) l.left r → LeavesRoomBehind (IsFrom (setting l.walk) l.fn.label) l.room r;
}

abbrev pub decreases-from_block-loop-block : goal.decreases-from_block-loop-block
decreases-from_block-loop-block l = room l.walk.body.now.blocks l.here
