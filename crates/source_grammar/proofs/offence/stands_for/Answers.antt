use Rattle.std.proofs.Common.{◌∙◌}
use Rattle.source_grammar.proofs.Matches.{matches_kinds}
use Rattle.source_grammar.proofs.offence.stands_for.Goals as goal

pub returns-in-Some : goal.returns-in-Some
returns-in-Some c = rw c.in-Some.is (c.matches.ensures ∙ matches_kinds c.tables.result c.tables.ensures.grammar c.args.terminal c.in-Some.kind)
