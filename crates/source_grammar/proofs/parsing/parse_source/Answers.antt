use Rattle.source_grammar.proofs.Meanings.{source_token_before, source_fault}
use Rattle.source_grammar.proofs.parsing.parse_source.Goals as goal

pub fault_of-requires : goal.fault_of-requires
fault_of-requires c = source_token_before c.tables.result c.tables.ensures.grammar c.tables.ensures.marks c.args.kinds.now c.in-Err.error c.in-Err.ensures.stops

pub returns-in-Err-clause-refused : goal.returns-in-Err-clause-refused
returns-in-Err-clause-refused c = rw c.fault_of.ensures (source_fault c.tables.result c.tables.ensures.grammar c.tables.ensures.marks c.args.kinds.now c.in-Err.error c.in-Err.ensures.refused c.in-Err.ensures.stops)
