use Rattle.name_tables.proofs.Tables.{kept_all, named_each}
use Rattle.name_tables.proofs.laws.a_table_keeps_its_names.Goals as goal

pub returns-clause-keeps : goal.returns-clause-keeps
returns-clause-keeps c = kept_all

pub returns-clause-names : goal.returns-clause-names
returns-clause-names c = named_each
