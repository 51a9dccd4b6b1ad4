use Rattle.std.proofs.Common.{arith}
use Rattle.mir_ir.specs.Acts.{acts_of_operand}
use Rattle.prophecy_logic.specs.Loop.{one_touches}
use Rattle.wp_gen.proofs.MarkLaws.{adds_all, touched_by_each}
use Rattle.wp_gen.proofs.marks.mark_operands.Goals as goal

pub returns : goal.returns
returns c =
    touched_by_each c.args.operands.now c.args.marks.now c.loop-operand.marks
    (adds_all (λ x o. one_touches x (acts_of_operand o)) c.args.operands.now c.loop-operand.operand-index c.args.marks.now c.loop-operand.marks (omega arith) c.loop-operand.invariant)
