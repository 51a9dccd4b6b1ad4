use Rattle.std.proofs.Common.{◌≡◌, ◌+◌, ◌*◌, max, take, map}
use Rattle.logic_term.specs.Sort.{instance}
use Rattle.logic_term.specs.TyView.{compound_of, ty_size, tys_size, tys_of}
use Rattle.rs_types.proofs.applying.+applied.Given as goal

abbrev pub decreases-applied : goal.decreases-applied
decreases-applied l = 4 * ty_size l.t.now + 1

abbrev pub decreases-applied_parts : goal.decreases-applied_parts
decreases-applied_parts l = 4 * ty_size (compound_of l.parts.now)

abbrev pub decreases-applied_bound : goal.decreases-applied_bound
decreases-applied_bound l = 4 * max (tys_size (tys_of l.bound.now.params.items)) (ty_size l.bound.now.result) + 2

abbrev pub decreases-applied_closure : goal.decreases-applied_closure
decreases-applied_closure l = 4 * max (tys_size (tys_of l.around.now)) (max (tys_size (tys_of l.captures.now)) (max (tys_size (tys_of l.bound.now.params.items)) (ty_size l.bound.now.result))) + 3

abbrev pub decreases-all_applied : goal.decreases-all_applied
decreases-all_applied l = 4 * tys_size (tys_of l.all.now)

abbrev pub invariant-all_applied-loop-i : goal.invariant-all_applied-loop-i
invariant-all_applied-loop-i l = l.made.items ≡ map (instance (tys_of l.types)) (take l.i l.all)
