use Rattle.std.proofs.Common.{◌≡◌, ◌++◌, map, take}
use Rattle.grammar_tables.specs.Stack.{part_of}
use Rattle.grammar_tables.proofs.parsing.push_parts.Given as goal

abbrev pub invariant-loop-symbol : goal.invariant-loop-symbol
invariant-loop-symbol l = l.expected.items ≡ l.initial.expected.items ++ map (part_of l.mark l.nonterminal l.around.levels l.around.operators) (take l.symbol-index l.parts)
