use Rattle.std.proofs.Common.{take}
use Rattle.std.specs.List.{list_any}
use Rattle.mir_ir.specs.Acts.{acts_of_operand}
use Rattle.prophecy_logic.specs.Loop.{one_touches}
use Rattle.wp_gen.specs.Marks.{AddsMarks}
use Rattle.wp_gen.proofs.marks.mark_operands.Given as goal

abbrev pub invariant-loop-operand : goal.invariant-loop-operand
invariant-loop-operand l = AddsMarks (λ x. list_any (λ o. one_touches x (acts_of_operand o)) (take l.operand-index l.operands)) l.fn.marks l.marks
