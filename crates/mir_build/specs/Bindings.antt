-- A block whose first statements are lowered: the text that is still to be written, with the numbers that the code gives. Contracts of
-- the code alone speak of it.
use Rattle.std.specs.Prelude.{ℕ, Bool, List, [], ◌∷◌, ◌++◌, drop}
use Rattle.text_core.specs.declared.span.Span.{Span}
use Rattle.mir_ir.specs.declared.place.Place.{Place}
use Rattle.type_check.specs.TypedExpr.{TypedStmts}
use Rattle.mir_build.specs.Text.{Line}
use Rattle.mir_build.specs.Lowering.{Around, dies_in}
use Rattle.mir_build.specs.Numbered.{rest}

-- the bindings in these places end, the last one first
abbrev pub all_die : Bool → Span → List Place → List Line
all_die outer s [] = []
all_die outer s (p ∷ ps) = all_die outer s ps ++ dies_in outer s p.local

-- what is left of a block around which n variables are in scope: these statements, and the ends of the bindings before them
abbrev pub left_of : TypedStmts → Bool → Span → ℕ → Around → ℕ → ℕ → ℕ → List Line
left_of ss outer s n c l t d = rest ss outer s c l t d ++ all_die outer s (drop n c.scope)
