use Rattle.std.proofs.Common.{take, ◌&&◌}
use Rattle.std.specs.List.{list_any}
use Rattle.logic_term.specs.declared.kinds.Label.{Label}
use Rattle.mir_ir.specs.declared.body.Block.{Block}
use Rattle.prophecy_logic.specs.Loop.{is_in_loop, block_writes}
use Rattle.wp_gen.specs.Marks.{AddsMarks}
use Rattle.wp_gen.proofs.marks.mark_loop.Given as goal

abbrev pub invariant-loop-entry : goal.invariant-loop-entry
invariant-loop-entry l = AddsMarks (λ x. list_any (λ (e : Label × Block). is_in_loop l.head e.1 && block_writes x e.1) (take l.entry-index l.body.blocks)) l.fn.marks l.marks
