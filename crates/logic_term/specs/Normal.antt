-- The normal form of a term: reduced, and in canonical form. So it is one for all terms that reduce to the same up to the names that they bind.
use Rattle.std.specs.Prelude.{true, []}
use Rattle.logic_term.specs.Canonical.{above_free, canonical}
use Rattle.logic_term.specs.Placed.{placed, itself}
use Rattle.logic_term.specs.Term.{Term}

unfoldable pub reduced : Term → Term
reduced t = canonical (placed true (above_free [] t) itself t)
