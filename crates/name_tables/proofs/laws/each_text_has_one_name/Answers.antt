use Rattle.name_tables.proofs.Tables.{one_place_at_first, one_place_each}
use Rattle.name_tables.proofs.laws.each_text_has_one_name.Goals as goal

pub returns-clause-start : goal.returns-clause-start
returns-clause-start c = one_place_at_first

pub returns-clause-keeps : goal.returns-clause-keeps
returns-clause-keeps c = one_place_each
