use Rattle.std.proofs.Common.{◌≡◌, take, reverse, Some}
use Rattle.grammar_tables.specs.First.{is_in}
use Rattle.source_grammar.proofs.offence.is_among_ended.Given as goal

abbrev pub invariant-loop-other : goal.invariant-loop-other
invariant-loop-other l = l.found ≡ is_in (Some l.line) (reverse (take l.other-index l.ended))
