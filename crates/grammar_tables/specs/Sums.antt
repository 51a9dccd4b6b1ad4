-- A small grammar as an example: sums of numbers and of sums in parentheses. The kinds of tokens are 0 for a number, 1 for `+`, 2 for `(` and 3 for `)`.
use Rattle.std.specs.Prelude.{List, [], ◌∷◌}
use Rattle.grammar_tables.specs.Grammar.{Grammar}
use Rattle.grammar_tables.specs.Ebnf.{Form, terminal, nonterminal, ◌·◌, ◌∣◌, repeated, expanded}
use Rattle.grammar_tables.specs.First.{first_sets, grammar_with}

unfoldable pub sum_lines : List Form
sum_lines =
    -- 0, sum: addend { "+" addend }
    (nonterminal 1 · repeated (terminal 1 · nonterminal 1))
    -- 1, addend: number | "(" sum ")"
    ∷ (terminal 0 ∣ terminal 2 · nonterminal 0 · terminal 3)
    ∷ []

unfoldable pub sums : Grammar
sums = grammar_with [] (first_sets [] 3 (expanded sum_lines)) (expanded sum_lines)
