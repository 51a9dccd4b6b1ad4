use Rattle.std.proofs.Common.{◌≡◌, drop}
use Rattle.mir_ir.specs.Body.{block_in}
use Rattle.mir_ir.proofs.body.Body.block.Given as goal

abbrev pub invariant-loop-entry : goal.invariant-loop-entry
invariant-loop-entry l = block_in l.entry-items l.label ≡ block_in (drop l.entry-index l.entry-items) l.label
