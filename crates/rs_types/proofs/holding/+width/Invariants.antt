use Rattle.std.proofs.Common.{◌≡◌, ◌+◌, ◌*◌, max, drop}
use Rattle.logic_term.specs.TyView.{compound_of, ty_size, tys_size, tys_of}
use Rattle.rs_types.specs.Holding.{all_width}
use Rattle.rs_types.proofs.holding.+width.Given as goal

abbrev pub decreases-width : goal.decreases-width
decreases-width l = 2 * ty_size l.t.now + 1

abbrev pub decreases-width_in_parts : goal.decreases-width_in_parts
decreases-width_in_parts l = 2 * ty_size (compound_of l.parts.now)

abbrev pub decreases-widest : goal.decreases-widest
decreases-widest l = 2 * tys_size (tys_of l.types.now)

abbrev pub invariant-widest-loop-i : goal.invariant-widest-loop-i
invariant-widest-loop-i l = all_width (tys_of l.types) ≡ max l.most (all_width (tys_of (drop l.i l.types)))
