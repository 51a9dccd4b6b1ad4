use Rattle.std.proofs.Common.{[]}
use Rattle.grammar_tables.proofs.Soundness.{sound, complete}
use Rattle.grammar_tables.proofs.laws.what_is_accepted_is_derived.Goals as goal

pub returns : goal.returns
returns c = record {
  sound = λ G depth h ss xs rs ended ys q. sound G depth h q;
  complete = λ G depth h ss xs rs q. complete G depth h q [];
}
