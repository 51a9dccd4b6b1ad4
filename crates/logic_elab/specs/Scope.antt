-- What the names of a term mean where it stands, and the types that are declared there.
use Rattle.std.specs.Prelude.{List, Option}
use Rattle.text_core.specs.declared.name.Name.{Name}
use Rattle.logic_term.specs.declared.declaration.AdtDecl.{AdtDecl}
use Rattle.logic_elab.specs.declared.scope.Symbol.{Symbol}

pub record Scope : Type 0 where
  -- the variables, by their names in sources
  pub variable : Name → Option Symbol
  -- the answer of a function, where the word `result` speaks of it; elsewhere the word is a name as each other
  pub answer : Option Symbol
  -- the declared types, by their numbers
  pub types : List AdtDecl
