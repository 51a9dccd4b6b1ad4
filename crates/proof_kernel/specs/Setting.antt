-- What the steps of a proof may look up besides the sequents.
use Rattle.std.specs.Prelude.{◌≡◌, ℕ, List, [], Option}
use Rattle.text_core.specs.declared.name.Name.{Name}
use Rattle.logic_term.specs.declared.obligation.Bounds.{Bounds}
use Rattle.logic_term.specs.declared.obligation.Obligation.{Obligation}
use Rattle.logic_term.specs.Meaning.{Structure}
use Rattle.logic_term.specs.Obligations.{IsInstance}
use Rattle.logic_term.specs.Theory.{Theory}
use Rattle.proof_kernel.specs.declared.setting.Scope.{Scope}
use Rattle.proof_kernel.specs.declared.setting.Tables.{Tables}

-- the theory of a program with these tables
abbrev pub theory_of : Tables → Theory
theory_of T = record { adts = T.adts }

-- the tables of a program that declares nothing
abbrev pub no_tables : Tables
no_tables = record { adts = [] }

-- what a proof is about: the program, and the item whose obligation is proved
pub record Setting : Type 0 where
  pub tables : Tables
  -- the type parameters of the item
  pub params : List (Name × Bounds)
  -- where the item begins, if it is a lemma or an impl's law
  pub from : Option ℕ

abbrev pub setting_of : Tables → Obligation → Setting
setting_of T o = record { tables = T; params = o.params; from = o.from }

-- the setting that is borrowed
abbrev pub setting : Scope → Setting
setting w = setting_of w.tables.now w.obligation.now

-- what is declared in the structure is what the tables say, and each type parameter has a type
abbrev pub IsStructureOf : Setting → Structure → Type 0
IsStructureOf w S = (S.theory ≡ theory_of w.tables) × IsInstance S.theory w.params S.types
