use Rattle.std.proofs.Common.{false, sym}
use Rattle.std.proofs.lemmas.List.{get_or_past}
use Rattle.source_grammar.specs.Actions.{several}
use Rattle.source_grammar.proofs.action.is_for_several.Goals as goal

pub returns-else-nonterminal-several : goal.returns-else-nonterminal-several
unfolding several
returns-else-nonterminal-several c = sym (get_or_past several c.args.nonterminal false c.if-nonterminal-several.false)
