use Rattle.std.proofs.Common.{◌≡◌, ◌+◌, ◌*◌, drop}
use Rattle.logic_term.specs.TyView.{compound_of, ty_size, tys_size, tys_of}
use Rattle.rs_types.specs.CopyRows.{all_copy, counted, needed_copy}
use Rattle.rs_types.proofs.copy_rows.+copies.Given as goal

abbrev pub decreases-copies : goal.decreases-copies
decreases-copies l = 3 * ty_size l.t.now + 1

abbrev pub decreases-parts_copy : goal.decreases-parts_copy
decreases-parts_copy l = 3 * ty_size (compound_of l.parts.now)

abbrev pub decreases-declared_copies : goal.decreases-declared_copies
decreases-declared_copies l = 3 * tys_size (tys_of l.types.now) + 2

abbrev pub decreases-all_copy : goal.decreases-all_copy
decreases-all_copy l = 3 * tys_size (tys_of l.types.now)

abbrev pub decreases-needed_copy : goal.decreases-needed_copy
decreases-needed_copy l = 3 * tys_size (tys_of l.types.now)

abbrev pub decreases-argument_copies : goal.decreases-argument_copies
decreases-argument_copies l = 3 * ty_size l.t.now + 2

abbrev pub invariant-all_copy-loop-i : goal.invariant-all_copy-loop-i
invariant-all_copy-loop-i l = all_copy l.rows (counted l.assumed) (tys_of l.types) ≡ all_copy l.rows (counted l.assumed) (tys_of (drop l.i l.types))

abbrev pub invariant-needed_copy-loop-i : goal.invariant-needed_copy-loop-i
invariant-needed_copy-loop-i l =
    needed_copy l.rows (counted l.assumed) l.needed (tys_of l.types) ≡ needed_copy l.rows (counted l.assumed) (drop l.i l.needed) (tys_of (drop l.i l.types))
