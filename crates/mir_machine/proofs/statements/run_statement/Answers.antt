use Rattle.mir_machine.specs.Taken.{types_of}
use Rattle.mir_machine.proofs.RightSides.{statement_goes}
use Rattle.mir_machine.proofs.statements.run_statement.Goals as goal

pub returns-clause-runs : goal.returns-clause-runs
returns-clause-runs c =
    statement_goes c.args.body.now (types_of c.args.state.now) c.args.state.now c.change.new.state c.pass.new.state c.args.statement.now.span c.args.statement.now.kind c.in_ok-change.ensures.changes c.pass.ensures
