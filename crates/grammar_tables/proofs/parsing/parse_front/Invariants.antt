use Rattle.std.proofs.Common.{length, drop, reverse, ◌+◌, ◌-◌, ◌*◌, ◌^◌}
use Rattle.grammar_tables.specs.Grammar.{next_kind}
use Rattle.grammar_tables.specs.Tables.{grammar_in, depth_in, mark_in}
use Rattle.grammar_tables.specs.Answers.{symbols_of}
use Rattle.grammar_tables.proofs.ParserMoves.{State, weight}
use Rattle.grammar_tables.proofs.parsing.parse_front.Given as goal

abbrev pub invariant-loop-next : goal.invariant-loop-next
invariant-loop-next l = State (grammar_in l.tables) (mark_in l.tables) l.goal l.levels (depth_in l.tables) l.kinds l.run.derivation.items l.run.ended.items l.run.expected.items l.position

abbrev pub decreases-loop-next : goal.decreases-loop-next
decreases-loop-next l = (length l.kinds - l.position) * 2 ^ 65 + weight (grammar_in l.tables) (depth_in l.tables) (symbols_of (reverse l.run.expected.items)) (next_kind (drop l.position l.kinds))
