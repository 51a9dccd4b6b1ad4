use Rattle.std.proofs.Common.{◌+◌, ◌*◌}
use Rattle.logic_term.specs.TyView.{compound_of, ty_size, tys_size, tys_of}
use Rattle.pat_tests.proofs.printed.+ty.Given as goal

abbrev pub decreases-push_ty : goal.decreases-push_ty
decreases-push_ty l = 4 * ty_size l.ty.now + 1

abbrev pub decreases-push_compound : goal.decreases-push_compound
decreases-push_compound l = 4 * ty_size (compound_of l.ty.now)

abbrev pub decreases-push_types : goal.decreases-push_types
decreases-push_types l = 4 * tys_size (tys_of l.types.now)
