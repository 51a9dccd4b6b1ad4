-- The entries of a context.
use Rattle.std.specs.Prelude.{List, [], ◌∷◌}
use Rattle.logic_term.specs.declared.context.Entry.{Entry}
use Rattle.logic_term.specs.declared.context.Link.{Link}
use Rattle.logic_term.specs.declared.context.Link.TheVariants as link

abbrev pub entries_of : Link → List Entry
entries_of link.Start = []
entries_of (link.After e es) = e ∷ es
