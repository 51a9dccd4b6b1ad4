-- What the evaluator has to do, the next entry last.
use Rattle.std.specs.Prelude.{ℕ, List, ◌++◌, map, take, drop}
use Rattle.grammar_tables.specs.declared.symbol.Symbol.{Symbol}
use Rattle.grammar_tables.specs.declared.evaluating.Expansion.{Expansion}
use Rattle.grammar_tables.specs.declared.evaluating.Work.{Work}
use Rattle.grammar_tables.specs.declared.evaluating.Work.TheVariants.{Visit}
use Rattle.grammar_tables.specs.Trees.{SemanticActions, folded}

abbrev pub visits : List Symbol → List Work
visits ss = map Visit ss

-- what the action makes of the values of an alternative's parts, where the alternative ends before the token at `end`
abbrev pub action_value : {Value : Type 0} → SemanticActions Value → Expansion → ℕ → List Value → Value
action_value m e end vs = m.action e.nonterminal e.alternative e.first_token end vs

-- the values once the alternative is complete: those of its parts give way to what it is made into
abbrev pub reduced : {Value : Type 0} → SemanticActions Value → Expansion → ℕ → List Value → List Value
reduced m e end vs = take e.first_value vs ++ folded m e.nonterminal e.alternative e.first_token end (drop e.first_value vs)
