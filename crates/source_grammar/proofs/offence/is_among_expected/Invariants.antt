use Rattle.std.proofs.Common.{◌≡◌, take, reverse}
use Rattle.grammar_tables.specs.Answers.{symbols_of}
use Rattle.source_grammar.specs.LeftOut.{is_among}
use Rattle.source_grammar.proofs.offence.is_among_expected.Given as goal

abbrev pub invariant-loop-part : goal.invariant-loop-part
invariant-loop-part l = l.found ≡ is_among l.line (reverse (symbols_of (take l.part-index l.expected)))
