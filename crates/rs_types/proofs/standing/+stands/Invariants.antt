use Rattle.std.proofs.Common.{◌≡◌, ◌+◌, ◌*◌, drop}
use Rattle.logic_term.specs.TyView.{compound_of, ty_size, tys_size, tys_of}
use Rattle.rs_types.specs.Holding.{argument_stands, one_stands}
use Rattle.rs_types.specs.Wanting.{wants_adt, wants_param}
use Rattle.rs_types.proofs.standing.+stands.Given as goal

abbrev pub decreases-stands : goal.decreases-stands
decreases-stands l = 2 * ty_size l.t.now + 1

abbrev pub decreases-stands_in_parts : goal.decreases-stands_in_parts
decreases-stands_in_parts l = 2 * ty_size (compound_of l.parts.now)

abbrev pub decreases-one_stands : goal.decreases-one_stands
decreases-one_stands l = 2 * tys_size (tys_of l.types.now)

abbrev pub decreases-argument_stands : goal.decreases-argument_stands
decreases-argument_stands l = 2 * tys_size (tys_of l.types.now) + 1

abbrev pub invariant-one_stands-loop-i : goal.invariant-one_stands-loop-i
invariant-one_stands-loop-i l =
    one_stands l.rows (wants_param l.wanted) (wants_adt l.wanted) (tys_of l.types) ≡ one_stands l.rows (wants_param l.wanted) (wants_adt l.wanted) (tys_of (drop l.i l.types))

abbrev pub invariant-argument_stands-loop-i : goal.invariant-argument_stands-loop-i
invariant-argument_stands-loop-i l =
    argument_stands l.rows (wants_param l.wanted) (wants_adt l.wanted) l.held (tys_of l.types)
    ≡ argument_stands l.rows (wants_param l.wanted) (wants_adt l.wanted) (drop l.i l.held) (tys_of (drop l.i l.types))

abbrev pub decreases-counts_at : goal.decreases-counts_at
decreases-counts_at l = 2 * ty_size l.t.now + 2
