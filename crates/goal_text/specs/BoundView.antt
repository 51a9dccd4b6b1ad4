-- The bound names as the program has them: the innermost last.
use Rattle.std.specs.Prelude.{List, map, reverse}
use Rattle.text_core.specs.declared.name.Name.{Name}
use Rattle.logic_term.specs.Ty.{Ty}
use Rattle.goal_text.specs.declared.term.Bound.{Bound}

abbrev pub bound_of : Bound → Name × Ty
bound_of b = (b.name, b.sort.now)

-- the names with their sorts, the innermost first
abbrev pub bounds_of : List Bound → List (Name × Ty)
bounds_of bs = reverse (map bound_of bs)
