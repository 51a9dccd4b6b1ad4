use Rattle.source_grammar.proofs.Meanings.{term_front, term_token_before, term_fault}
use Rattle.source_grammar.proofs.parsing.parse_term.Goals as goal

pub fault_of-requires : goal.fault_of-requires
fault_of-requires c = term_token_before c.tables.result c.tables.ensures.grammar c.tables.ensures.marks c.args.kinds.now c.in-Err.error c.in-Err.ensures.stops

pub returns-in-Ok-clause-parsed : goal.returns-in-Ok-clause-parsed
returns-in-Ok-clause-parsed c = term_front c.tables.result c.tables.ensures.grammar c.tables.ensures.marks c.args.kinds.now c.args.levels c.in-Ok.front c.in-Ok.ensures.parsed

pub returns-in-Err-clause-refused : goal.returns-in-Err-clause-refused
returns-in-Err-clause-refused c = rw c.fault_of.ensures (term_fault c.tables.result c.tables.ensures.grammar c.tables.ensures.marks c.args.kinds.now c.args.levels c.in-Err.error c.in-Err.ensures.refused c.in-Err.ensures.stops)
