use Rattle.std.proofs.Common.{sym}
use Rattle.std.proofs.lemmas.List.{get_or_past}
use Rattle.source_grammar.specs.declared.action.Action.TheVariants.{Keep}
use Rattle.source_grammar.specs.Actions.{actions}
use Rattle.source_grammar.proofs.action.action_of.Goals as goal

pub returns-else-nonterminal-actions : goal.returns-else-nonterminal-actions
unfolding actions
returns-else-nonterminal-actions c = sym (get_or_past actions c.args.nonterminal Keep c.if-nonterminal-actions.false)
