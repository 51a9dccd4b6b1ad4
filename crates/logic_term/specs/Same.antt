-- Equality of terms as a truth value, by their codes.
use Rattle.std.specs.Prelude.{Bool, true, false, ◌&&◌, ◌==◌}
use base.Stored.{Gv, gnil, gnum, gcons}
use Rattle.logic_term.specs.Term.{Term}
use Rattle.logic_term.specs.TermCode.{term_code}

abbrev pub same_code : Gv → Gv → Bool
same_code gnil gnil = true
same_code (gnum m) (gnum n) = m == n
same_code (gcons a b) (gcons c d) = same_code a c && same_code b d
same_code a b = false

unfoldable pub same_term : Term → Term → Bool
same_term t u = same_code (term_code t) (term_code u)
