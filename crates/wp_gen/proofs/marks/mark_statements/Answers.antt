use Rattle.std.proofs.Common.{arith}
use Rattle.mir_ir.specs.declared.statement.Statement.{Statement}
use Rattle.prophecy_logic.specs.Loop.{statement_touches}
use Rattle.wp_gen.proofs.MarkLaws.{adds_more}
use Rattle.wp_gen.proofs.marks.mark_statements.Goals as goal

pub loop-statement-preserved : goal.loop-statement-preserved
loop-statement-preserved c =
    adds_more (λ x (st : Statement). statement_touches x st.kind) c.args.statements.now c.loop-statement.statement-index c.statement-item.result c.args.marks.now c.loop-statement.marks c.mark_statement.new.marks
    (omega arith) c.statement-item.is c.loop-statement.invariant c.mark_statement.ensures
