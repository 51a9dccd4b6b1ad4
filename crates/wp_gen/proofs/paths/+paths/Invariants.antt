use Rattle.std.proofs.Common.{◌≡◌, ℕ, ◌+◌, ◌*◌, ◌≤◌, Bool, false, Some, take}
use Rattle.mir_ir.specs.declared.body.Block.{Block}
use Rattle.mir_ir.specs.Body.{block_in}
use Rattle.wp_gen.specs.Paths.{CountsEach, CountsFrom}
use Rattle.prophecy_logic.proofs.ArriveLaws.{room}
use Rattle.wp_gen.proofs.paths.+paths.Given as goal

abbrev pub decreases-along : goal.decreases-along
decreases-along l = 4 * room l.body.now.blocks l.from

abbrev pub decreases-along_each : goal.decreases-along_each
decreases-along_each l = 4 * room l.body.now.blocks l.label + 1

abbrev pub invariant-along_each-loop-to : goal.invariant-along_each-loop-to
invariant-along_each-loop-to l = (l.counted ≤ l.room) × CountsEach l.body l.label (take l.to-index l.labels) false l.counted

abbrev pub decreases-first_side : goal.decreases-first_side
decreases-first_side l = 4 * room l.body.now.blocks l.label + 2

abbrev pub decreases-from_block : goal.decreases-from_block
decreases-from_block l = 4 * room l.body.now.blocks l.label + 3

abbrev pub invariant-from_block-loop-block : goal.invariant-from_block-loop-block
invariant-from_block-loop-block l = record {
  few : l.counted ≤ l.room;
  there : (k : Block) × (block_in l.body.blocks l.here ≡ Some k);
  nearer : room l.body.blocks l.here ≤ room l.body.blocks l.fn.label;
  counts : (early : Bool) (n : ℕ) → CountsFrom l.body l.here early n → CountsFrom l.body l.fn.label early (l.counted + n);
}

abbrev pub decreases-from_block-loop-block : goal.decreases-from_block-loop-block
decreases-from_block-loop-block l = room l.body.blocks l.here
