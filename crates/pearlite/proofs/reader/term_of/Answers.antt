use Rattle.grammar_tables.specs.Tables.{grammar_in}
use Rattle.pearlite.proofs.Terms.{made_of}
use Rattle.pearlite.proofs.reader.term_of.Goals as goal

pub returns : goal.returns
returns c =
    made_of (grammar_in c.tables.result) c.args.words.now c.args.derivation.now c.args.count c.in_ok-parts.parts.items
    c.reverse.new.self.items c.in_ok-term.term c.tables.ensures.grammar c.in_ok-parts.ensures c.reverse.ensures.items c.in_ok-term.ensures.value
