use Rattle.std.proofs.Common.{◌≡◌, ◌+◌, ◌*◌, drop}
use Rattle.logic_term.specs.TyView.{ty_size, tys_size, tys_of, compound_of}
use Rattle.type_check.specs.Types.{are_built}
use Rattle.type_check.proofs.types.+is_built.Given as goal

abbrev pub decreases-is_built : goal.decreases-is_built
decreases-is_built l = 3 * ty_size l.ty.now + 1

abbrev pub decreases-is_compound_built : goal.decreases-is_compound_built
decreases-is_compound_built l = 3 * ty_size (compound_of l.parts.now)

abbrev pub decreases-are_built : goal.decreases-are_built
decreases-are_built l = 3 * tys_size (tys_of l.types.now) + 1

abbrev pub invariant-are_built-loop-i : goal.invariant-are_built-loop-i
invariant-are_built-loop-i l = are_built l.decls (tys_of l.types) ≡ are_built l.decls (tys_of (drop l.i l.types))
