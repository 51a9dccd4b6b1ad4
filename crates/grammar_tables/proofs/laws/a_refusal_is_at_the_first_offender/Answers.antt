use Rattle.grammar_tables.proofs.Soundness.{longest}
use Rattle.grammar_tables.proofs.ViablePrefix.{refused}
use Rattle.grammar_tables.proofs.laws.a_refusal_is_at_the_first_offender.Goals as goal

pub returns : goal.returns
returns c = record {
  refused = λ G depth h plan i n j xs ended ys expected q. refused G depth h plan i n j xs ended ys expected q;
  ended = λ G depth h n xs rs ended ys q. longest G depth h q;
}
