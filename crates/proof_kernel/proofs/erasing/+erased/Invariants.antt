use Rattle.std.proofs.Common.{◌≡◌, ◌+◌, ◌*◌, max, take, map}
use Rattle.logic_term.specs.Erased.{erased}
use Rattle.logic_term.specs.TyView.{compound_of, ty_size, tys_size, tys_of}
use Rattle.proof_kernel.proofs.erasing.+erased.Given as goal

abbrev pub decreases-erased : goal.decreases-erased
decreases-erased l = 4 * ty_size l.t.now + 1

abbrev pub decreases-erased_parts : goal.decreases-erased_parts
decreases-erased_parts l = 4 * ty_size (compound_of l.parts.now)

abbrev pub decreases-erased_unary : goal.decreases-erased_unary
decreases-erased_unary l = 4 * ty_size l.t.now + 2

abbrev pub decreases-erased_bound : goal.decreases-erased_bound
decreases-erased_bound l = 4 * max (tys_size (tys_of l.bound.now.params.items)) (ty_size l.bound.now.result) + 2

abbrev pub decreases-erased_closure : goal.decreases-erased_closure
decreases-erased_closure l = 4 * max (tys_size (tys_of l.around.now)) (max (tys_size (tys_of l.captures.now)) (max (tys_size (tys_of l.bound.now.params.items)) (ty_size l.bound.now.result))) + 3

abbrev pub decreases-all_erased : goal.decreases-all_erased
decreases-all_erased l = 4 * tys_size (tys_of l.all.now)

abbrev pub invariant-all_erased-loop-i : goal.invariant-all_erased-loop-i
invariant-all_erased-loop-i l = l.made.items ≡ map erased (take l.i l.all)
