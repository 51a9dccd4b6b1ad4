use Rattle.grammar_tables.proofs.ParseTrees.{tree_of}
use Rattle.grammar_tables.proofs.Uniqueness.{one_derivation, one_tree}
use Rattle.grammar_tables.proofs.laws.a_derivation_has_one_tree.Goals as goal

pub returns : goal.returns
returns c = record {
  tree = λ G n xs rs q. tree_of G n xs rs q;
  alone = λ G s one other p q e. one_tree G p q e;
  of_text = λ G depth h n xs one other p q d e. one_tree G p q (one_derivation G depth h d e);
}
