use Rattle.std.proofs.lemmas.Result.{err_from_is_err_and}
use Rattle.grammar_tables.specs.Tables.{grammar_in, depth_in, mark_in}
use Rattle.grammar_tables.proofs.FrontAnswers.{whole_stop, behind_front}
use Rattle.grammar_tables.proofs.parsing.parse.Goals as goal

pub returns-in_err-front-clause-stops : goal.returns-in_err-front-clause-stops
returns-in_err-front-clause-stops c =
    let p = err_from_is_err_and c.from_residual.result c.from_residual.ensures.1 in
    rw (p.1, p.2) (whole_stop (grammar_in c.args.tables.now) (mark_in c.args.tables.now) c.args.goal c.args.kinds.now c.in_err-front.field-0.0 c.in_err-front.ensures.stops)

pub returns-then-front-kinds-clause-refused : goal.returns-then-front-kinds-clause-refused
returns-then-front-kinds-clause-refused c =
    behind_front (grammar_in c.args.tables.now) (mark_in c.args.tables.now) c.args.goal c.args.kinds.now (depth_in c.args.tables.now) c.requires c.in_ok-front.front c.in_ok-front.ensures.parsed c.if-front-kinds.true
