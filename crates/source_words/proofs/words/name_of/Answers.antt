use Rattle.std.proofs.Common.{◌≡◌, ℕ, List, subst, arith}
use Rattle.std.specs.Prelude.{OnOk}
use Rattle.name_tables.specs.NameTables.{with_name}
use Rattle.source_words.proofs.WordLemmas.{new_names, table_of}
use Rattle.source_words.proofs.words.name_of.Goals as goal

pub returns-clause-new : goal.returns-clause-new
returns-clause-new c = new_names _ _ _ c.intern.result c.intern.ensures.grown c.intern.ensures.err c.intern.ensures.one c.intern.ensures.kept

pub returns-clause-table : goal.returns-clause-table
returns-clause-table c =
    subst (λ (text : List ℕ). OnOk c.intern.result (c.intern.new.self ≡ with_name c.args.names.now text)) c.in-Ok.ensures.cases.0
    (table_of _ _ _ c.intern.result c.intern.ensures.grown c.intern.ensures.named c.intern.ensures.one (omega (arith, c.requires.room)))
