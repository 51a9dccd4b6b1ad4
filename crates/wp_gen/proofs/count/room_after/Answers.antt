use Rattle.wp_gen.specs.Setting.{setting}
use Rattle.wp_gen.proofs.CountLaws.{entry_leaves, entry_is_full}
use Rattle.wp_gen.proofs.count.room_after.Goals as goal

pub from_block-requires-clause-there : goal.from_block-requires-clause-there
from_block-requires-clause-there c = (c.requires.laid_out.entry, c.requires.laid_out.is_entry)

pub returns-in_err-left : goal.returns-in_err-left
returns-in_err-left c = rw c.from_residual.ensures (entry_is_full (setting c.args.walk.now) c.args.room c.requires.laid_out c.in_err-left.ensures)

pub returns : goal.returns
returns c = entry_leaves (setting c.args.walk.now) c.args.room c.in_ok-left.left c.from_block.result c.requires.laid_out c.in_ok-left.ensures c.from_block.ensures
