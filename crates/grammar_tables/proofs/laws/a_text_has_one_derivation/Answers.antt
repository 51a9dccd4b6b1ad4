use Rattle.grammar_tables.proofs.Uniqueness.{one_outcome, one_derivation}
use Rattle.grammar_tables.proofs.laws.a_text_has_one_derivation.Goals as goal

pub returns : goal.returns
returns c = record {
  outcome = λ G ended ss xs one other p q. one_outcome G p q;
  derivation = λ G depth h ss xs one other p q. one_derivation G depth h p q;
}
