use Rattle.std.proofs.Common.{◌≡◌, ◌+◌, ◌*◌, drop}
use Rattle.logic_term.specs.TyView.{compound_of, ty_size, tys_size, tys_of}
use Rattle.runnable.specs.Runs.{are_owned}
use Rattle.runnable.proofs.types.+owned.Given as goal

abbrev pub decreases-is_owned : goal.decreases-is_owned
decreases-is_owned l = 2 * ty_size l.ty.now + 1

abbrev pub decreases-parts_owned : goal.decreases-parts_owned
decreases-parts_owned l = 2 * ty_size (compound_of l.parts.now)

abbrev pub decreases-are_owned : goal.decreases-are_owned
decreases-are_owned l = 2 * tys_size (tys_of l.types.now)

abbrev pub invariant-are_owned-loop-i : goal.invariant-are_owned-loop-i
invariant-are_owned-loop-i l = are_owned l.decls (tys_of l.types) ≡ are_owned l.decls (tys_of (drop l.i l.types))
