use Rattle.grammar_tables.specs.First.{depth_of}
use Rattle.grammar_tables.proofs.Uniqueness.{one_derivation}
use Rattle.source_grammar.specs.SourceGrammar.{source_grammar}
use Rattle.source_grammar.proofs.Firsts.{depths}
use Rattle.source_grammar.proofs.Conditions.{source_is_ll1}
use Rattle.source_grammar.proofs.OneAnswer.{one_fault, derived_or_faulty}
use Rattle.source_grammar.proofs.laws.tokens_have_one_answer.Goals as goal

pub returns : goal.returns
returns c = record {
  derivation = λ goal levels kinds one other d e. one_derivation source_grammar (depth_of depths) source_is_ll1 d.0 e.0;
  fault = λ goal levels kinds one other m n a b. one_fault goal kinds levels one other m n a b;
  either = λ goal levels kinds rs fault n d a. derived_or_faulty goal kinds levels rs fault n d a;
}
