use Rattle.std.proofs.Common.{take}
use Rattle.std.specs.List.{list_any}
use Rattle.mir_ir.specs.declared.statement.Statement.{Statement}
use Rattle.prophecy_logic.specs.Loop.{statement_touches}
use Rattle.wp_gen.specs.Marks.{AddsMarks}
use Rattle.wp_gen.proofs.marks.mark_statements.Given as goal

abbrev pub invariant-loop-statement : goal.invariant-loop-statement
invariant-loop-statement l = AddsMarks (λ x. list_any (λ (st : Statement). statement_touches x st.kind) (take l.statement-index l.statements)) l.fn.marks l.marks
