use Rattle.std.proofs.Common.{sym, ◌∙◌}
use Rattle.grammar_tables.proofs.ParseTrees.{tree_of}
use Rattle.grammar_tables.proofs.Uniqueness.{one_tree}
use Rattle.source_grammar.specs.SourceGrammar.{source_grammar}
use Rattle.source_grammar.proofs.laws.a_source_has_one_tree.Goals as goal

pub returns : goal.returns
returns c = record {
  tree = λ goal levels kinds rs d. tree_of source_grammar goal kinds rs d.0;
  alone = λ goal levels kinds rs d one other p q e f. one_tree source_grammar p q (e ∙ sym f);
}
