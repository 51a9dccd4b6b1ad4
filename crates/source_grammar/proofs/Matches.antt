-- Which kinds a terminal of the tables stands for.
use Rattle.std.specs.Prelude.{◌≡◌, ℕ, Some}
use Rattle.std.proofs.Common.{ap}
use Rattle.grammar_tables.specs.declared.tables.Tables.{Tables}
use Rattle.grammar_tables.specs.Grammar.{Grammar}
use Rattle.grammar_tables.specs.First.{grammar_with, is_in, kinds_of}
use Rattle.grammar_tables.specs.Tables.{grammar_of, grammar_in, lists_in, matches_at}
use Rattle.source_grammar.specs.Classes.{classes}
use Rattle.source_grammar.specs.SourceGrammar.{source_grammar}

pub matches_kinds : (t : Tables) → grammar_in t ≡ source_grammar → (k x : ℕ) → matches_at (lists_in t) k x ≡ is_in (Some x) (kinds_of classes k)
unfolding grammar_of source_grammar grammar_with
matches_kinds t e k x = ap (λ (G : Grammar). G.matches k x) e
