use Rattle.std.proofs.Common.{arith}
use Rattle.proof_text.proofs.EndLemmas.{lines_short}
use Rattle.proof_text.proofs.NameOrder.{on_both, pieces_named}
use Rattle.proof_text.proofs.reader.read_pieces.Goals as goal

pub after_lines-requires-clause-room : goal.after_lines-requires-clause-room
after_lines-requires-clause-room c = omega (arith, lines_short c.args.pieces.now c.in-Some.lines.now c.in-Some.rest.now c.in-Some.ensures.cases.0, c.requires.room)

pub returns-clause-table : goal.returns-clause-table
returns-clause-table c =
    on_both c.at_end.result c.at_end.ensures.empty
    (λ none. pieces_named c.args.names.now c.after_lines.new.names c.args.pieces.now c.in-Some.lines.now c.in-Some.rest.now c.in-Some.ensures.cases.0 none c.in_ok-stage.ensures.table)
